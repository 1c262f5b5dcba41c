-- Bytes put behind those in use. Assumes nothing.
use Rattle.std.proofs.Common.{◌≡◌, ℕ, ◌+◌, ◌-◌, ◌≤◌, List, ◌++◌, length, take, sym, ◌∙◌, arith, length-drop, length-take}
use borrow.Rule.Slice.PartMut.{mid_of, put_mid, same_len_mid}
use Rattle.draft.specs.Growing.{text_in}
use Rattle.draft.specs.declared.draft.Draft.{Draft}
use Rattle.std.proofs.lemmas.Slice.{take-put_mid}

module _ (mem : List ℕ) (start width : ℕ) (out : List ℕ) (fits : start + width ≤ length mem) where
  pub part_length : length (mid_of start (start + width - start) mem) ≡ width
  part_length = simp (length-take, length-drop) (omega arith)

  pub put_text : length out ≡ width → take (start + width) (put_mid start (start + width - start) mem out) ≡ take start mem ++ out
  put_text len = take-put_mid start (start + width - start) mem out (start + width) (omega arith) (omega arith)

  pub put_length : length out ≡ width → length (put_mid start (start + width - start) mem out) ≡ length mem
  put_length len = same_len_mid start (start + width - start) mem out (len ∙ sym part_length)

-- a draft's text is as long as its count says
pub text_length : (d : Draft) → length (text_in d) ≡ d.len
text_length d = length-take d.len d.bytes ∙ omega (arith, d.fits)
