use Rattle.std.proofs.Common.{◌≡◌, Some, Err, sym, subst, MatchOption, arith}
use Rattle.frame.specs.Call.{NoCall}
use Rattle.frame_reader.specs.Frame.{Called, Parsed, Reads}
use Rattle.frame_reader.specs.Frame.Refused.{too_long}
use Rattle.frame_reader.specs.Parts.{CallOf}
use Rattle.frame_reader.specs.Payload.{FoundAll}
use Rattle.frame_reader.proofs.Same.{answered, at_text, not_called, not_checked, not_named, reads_as, same_answer}
use Rattle.frame_reader.proofs.reader.read.Goals as goal
use Rattle.frame_reader.proofs.reader.read.Goals.{In_ok-call, In_ok-check}
use Rattle.json_text.specs.Grammar.{Json, Membs}
use Rattle.refusal.specs.declared.Refusal.TheVariants.{TextTooLong}

pub returns-then-text-gt-LONGEST : goal.returns-then-text-gt-LONGEST
returns-then-text-gt-LONGEST c =
    let bytes = c.args.text.now in
    let h : Reads bytes (Err TextTooLong) = too_long c.if-text-gt-LONGEST.true in
    record { reads = h; reads_as = reads_as bytes (Err TextTooLong) h; only = λ other. same_answer bytes (Err TextTooLong) other h }

pub returns-in_err-check : goal.returns-in_err-check
returns-in_err-check c =
    let h = not_checked c.args.text.now _ _ (omega arith) c.from_residual.ensures.1 c.in_err-check.ensures.judged in
    record { reads = h; reads_as = reads_as _ _ h; only = λ other. same_answer _ _ other h }

-- the tree of the text
parsed : (c : In_ok-check) → (tree : Json) × Parsed c.args.text.now tree
parsed c =
    let json = c.in_ok-check.ensures.judged in
    (json.0.0, record { short = omega arith; shallow = json.1; is = json.0.1 })

pub returns-in_err-call : goal.returns-in_err-call
returns-in_err-call c =
    let tree = parsed (goal.at.returns-in_err-call c).In_ok-check in
    let found = c.find_call.ensures tree.0 (at_text tree.0 c.args.text.now tree.1.is) in
    let h = not_called (CallOf tree.0) c.args.text.now tree.0 c.find_call.result _ _ tree.1 c.from_residual-in_err-call.ensures.1 c.in_err-call.ensures.value found in
    record { reads = h; reads_as = reads_as _ _ h; only = λ other. same_answer _ _ other h }

-- the call that was found
called : (c : In_ok-call) → (payload : Membs) × Called c.args.text.now c.in_ok-call.call.id.now payload × FoundAll c.in_ok-call.call.payload payload
called c =
    let tree = parsed (goal.at.In_ok-call c).In_ok-check in
    let found = c.find_call.ensures tree.0 (at_text tree.0 c.args.text.now tree.1.is) in
    let is : c.find_call.result ≡ Some c.in_ok-call.call = c.in_ok-call.ensures.ok_part in
    let call = subst (λ o. MatchOption o (NoCall tree.0) (CallOf tree.0)) is found in
    (call.payload, record { tree = tree.0; parsed = tree.1; call = call.call }, call.payload_is)

pub returns-in_err-fields : goal.returns-in_err-fields
returns-in_err-fields c =
    let found = called (goal.at.returns-in_err-fields c).In_ok-call in
    let bad = c.in_err-fields.ensures found.0 found.2 in
    let h = not_named c.args.text.now _ found.0 _ _ found.1 c.from_residual-in_err-fields.ensures.1 bad.0 bad.1 in
    record { reads = h; reads_as = reads_as _ _ h; only = λ other. same_answer _ _ other h }

pub returns : goal.returns
returns c =
    let bytes = c.args.text.now in
    let found = called (goal.at.returns c).In_ok-call in
    let fields = c.in_ok-fields.ensures found.0 found.2 in
    let h : Reads bytes c.ok_or-2.result = subst (Reads bytes) (sym c.ok_or-2.ensures.value) (answered bytes _ found.0 c.transmission.result found.1 fields.0 (c.transmission.ensures found.0 fields.1)) in
    record { reads = h; reads_as = reads_as bytes _ h; only = λ other. same_answer bytes _ other h }
