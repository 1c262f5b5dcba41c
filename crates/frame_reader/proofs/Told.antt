-- What the values of a payload tell. Assumes nothing.
use Rattle.std.proofs.Common.{◌≡◌, ℕ, Some, None, codes, Option, sym, ap, ◌∙◌}
use Rattle.frame_reader.specs.Fields.{NoSample}
use Rattle.frame_reader.specs.Members.{element_of}
use Rattle.frame.specs.Members.{under}
use Rattle.frame_reader.specs.Reading.{NoRegister, RegisterTold, SmallRegister}
use Rattle.frame_reader.proofs.Onlys.{not_both}
use Rattle.json_text.specs.Grammar.{Json, Membs}

pub unreadable : (payload : Membs) (tree : Json) → under (codes "meterValue") payload ≡ Some tree → NoSample tree → NoRegister payload
unreadable payload tree is no-sample = go
  where
    go : (register : Option ℕ) → SmallRegister register → RegisterTold payload register → ⊥
    go None small told = not_both told is
    go (Some wh) small told = no-sample told.meter told.sample (ap element_of (sym is) ∙ told.meter_is) told.sample_is
