use Rattle.std.proofs.Common.{◌≡◌, ◌-◌, ◌++◌, length, take, drop, sym, refl, ap, ◌∙◌, subst, ap₂, inr, arith}
use borrow.Rule.Slice.PartMut.{Post-is, post_of}
use Rattle.draft.specs.Growing.{text_in}
use Rattle.event.specs.Lawful.{LawfulTransmission}
use Rattle.frame_reader.specs.Frame.{Frame}
use Rattle.frame_writer.proofs.Frames.{form_frame, one_form, read_back}
use Rattle.frame_writer.proofs.writing.write.Goals as goal
use Rattle.frame_writer.proofs.writing.write.Goals.{After-len-size}
use Rattle.frame_writer.specs.Tree.{WrittenForm}
use Rattle.std.proofs.lemmas.List.{take_at}

-- the draft holds the written form
form : (c : After-len-size) → WrittenForm c.args.transmission (text_in c.frame-draft.result)
form c = record { stamp = c.in_ok-stamp.stamp; denotes = c.in_ok-stamp.ensures.denotes.1; is = c.frame-draft.ensures }

pub returns-then-size-out : goal.returns-then-size-out
returns-then-size-out c =
    let bytes = text_in c.frame-draft.result in
    let is = form (goal.at.returns-then-size-out c).After-len-size in
    (refl, inr (refl, record { lawful = c.if-not-is_lawful.ensures.0 refl; bytes = bytes; form = one_form c.args.transmission bytes is; short = omega (arith, c.len-size.ensures.value) }))

pub returns : goal.returns
returns c =
    let t = c.args.transmission in
    let bytes = text_in c.frame-draft.result in
    let before = c.args.out.now in
    let size = c.len-size.result in
    let is = form (goal.at.returns c).After-len-size in
    let lawful : LawfulTransmission t = c.if-not-is_lawful.ensures.0 refl in
    let long : size ≡ length bytes = c.len-size.ensures.value in
    let copied : c.copy_from_slice.new.self ≡ bytes = c.copy_from_slice.ensures.after ∙ c.text.ensures in
    let behind : post_of 0 (size - 0) before ≡ drop (length bytes) before = Post-is 0 size before (omega arith) ∙ ap (λ n. drop n before) long in
    let after = c.copy_from_slice.new.self ++ post_of 0 (size - 0) before in
    let written : after ≡ bytes ++ drop (length bytes) before = ap₂ (λ a b. a ++ b) copied behind in
    let front : take size after ≡ bytes = ap (take size) written ∙ take_at bytes (drop (length bytes) before) size (sym long) in
    let frame : Frame (take size after) t = subst (λ l. Frame l t) (sym front) (form_frame t bytes lawful is (omega (arith, c.len-size.ensures.bound))) in
    record {
      lawful = lawful;
      bytes = bytes;
      form = one_form t bytes is;
      long = long;
      stands = record { fits = omega arith; written = written };
      frame = frame;
      read_back = read_back t (take size after) frame;
    }
