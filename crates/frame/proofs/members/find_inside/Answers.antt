use Rattle.std.proofs.Common.{refl}
use Rattle.frame.specs.Slots.{Bytes}
use Rattle.frame.specs.declared.slot.Slot.TheVariants.{Missing}
use Rattle.frame.proofs.Looks.{found_all}
use Rattle.frame.proofs.members.find_inside.Goals as goal

pub returns : goal.returns
returns c = record {
  through = λ word e ms end o.
      let walk = c.collect-behind.ensures.through (record { name = c.args.name; found = Missing }) ms end o (refl, λ w is. (refl, refl)) in
      (found_all Bytes word ms _ (walk.0.1 word e), walk.1);
  bound = c.collect-behind.ensures.bound;
}
