use Rattle.std.proofs.Common.{◌≡◌, ◌+◌, ◌-◌, ◌++◌, length, refl, ap, ◌∙◌, subst, ap₂, inr, arith, length-append}
use borrow.Rule.Slice.PartMut.{put_mid}
use Rattle.draft.specs.Growing.{Stands, text_in}
use Rattle.ledger.specs.Contents.{events_in}
use Rattle.ledger.specs.Held.{sessions}
use Rattle.statement.proofs.Puts.{stands_copy, stands_rest}
use Rattle.statement.proofs.Told.{billed_rows, both_counts, open_rows}
use Rattle.statement.specs.Lines.{total_line}
use Rattle.statement.specs.Parts.{part_lines}
use Rattle.statement.specs.Statement.{billed_sessions, open_sessions, statement_bytes}
use Rattle.statement.specs.declared.part.Part.TheVariants.{Billed, Open}
use Rattle.statement.proofs.writing.write.Goals as goal
use Rattle.statement.proofs.writing.write.Goals.{After-len-2}

pub overflow_sub-len : goal.overflow_sub-len
overflow_sub-len c = omega (arith, both_counts (events_in c.args.ledger.now), c.billed_count-billed.ensures, c.len.ensures)

-- the last line
total_is : (c : After-len-2) → text_in c.total_line-total.result ≡ total_line (length (billed_sessions (events_in c.args.ledger.now))) (length (open_sessions (events_in c.args.ledger.now)))
total_is c =
    let events = events_in c.args.ledger.now in
    let others : c.len.result - c.billed_count-billed.result ≡ length (open_sessions events) = omega (arith, both_counts events, c.billed_count-billed.ensures, c.len.ensures) in
    c.total_line-total.ensures ∙ ap₂ total_line c.billed_count-billed.ensures others

-- the three parts are the statement
bytes_are : (c : After-len-2) → (part_lines (events_in c.args.ledger.now) c.in_ok-price.price.thousandths Billed ++ part_lines (events_in c.args.ledger.now) c.in_ok-price.price.thousandths Open) ++ text_in c.total_line-total.result ≡ statement_bytes (events_in c.args.ledger.now) c.args.price
bytes_are c =
    let events = events_in c.args.ledger.now in
    let price = c.in_ok-price.price.thousandths in
    (λ i. (billed_rows events price (sessions events) i ++ open_rows events price (sessions events) i) ++ total_is c i)
    ∙ ap (statement_bytes events) c.in_ok-price.ensures

-- and as long
size_is : (c : After-len-2) → c.size.result + c.size-2.result + c.len-2.result ≡ length (statement_bytes (events_in c.args.ledger.now) c.args.price)
size_is c =
    let events = events_in c.args.ledger.now in
    let bills = part_lines events c.in_ok-price.price.thousandths Billed in
    let lacks = part_lines events c.in_ok-price.price.thousandths Open in
    omega (arith, ap length (bytes_are c), length-append (bills ++ lacks) (text_in c.total_line-total.result), length-append bills lacks, c.size.ensures.size, c.size-2.ensures.size, c.len-2.ensures.value)

pub returns-then-size-out : goal.returns-then-size-out
returns-then-size-out c = (refl, inr (refl, omega (arith, c.in_ok-price.ensures), omega (arith, size_is (goal.at.returns-then-size-out c).After-len-2)))

pub returns : goal.returns
returns c =
    let at = (goal.at.returns c).After-len-2 in
    let events = events_in c.args.ledger.now in
    let bills = part_lines events c.in_ok-price.price.thousandths Billed in
    let lacks = part_lines events c.in_ok-price.price.thousandths Open in
    let rows = c.size.result + c.size-2.result in
    let size = rows + c.len-2.result in
    let copied : c.copy_from_slice.new.self ≡ text_in c.total_line-total.result = c.copy_from_slice.ensures.after ∙ c.text.ensures in
    let behind = put_mid c.write-end.result (length c.write-end.new.out - c.write-end.result) c.write-end.new.out c.write.new.out in
    let both : Stands (bills ++ lacks) c.args.out.now behind =
    stands_rest bills lacks c.args.out.now c.write-end.new.out c.write.new.out c.write-end.result
    c.write-end.ensures.text c.write-end.ensures.end c.write.ensures.text in
    let all : Stands ((bills ++ lacks) ++ c.copy_from_slice.new.self) c.args.out.now (put_mid rows (size - rows) behind c.copy_from_slice.new.self) =
    stands_copy (bills ++ lacks) c.args.out.now behind c.copy_from_slice.new.self rows size both
    (omega (arith, c.size.ensures.size, c.size-2.ensures.size, length-append bills lacks))
    (omega (arith, ap length copied, c.len-2.ensures.value))
    (omega arith) in (
      omega (arith, c.in_ok-price.ensures),
      size_is at,
      subst (λ l. Stands l c.args.out.now (put_mid rows (size - rows) behind c.copy_from_slice.new.self)) (ap (λ l. (bills ++ lacks) ++ l) copied ∙ bytes_are at) all,
    )
