-- What a written text begins with, and what it stands for, piece by piece.
use Rattle.std.proofs.Common.{◌≡◌, ℕ, ◌+◌, ◌<◌, true, false, eqb, List, [], ◌∷◌, ◌++◌, length, drop, replicate, IfSome, Some, None, Option, sym, refl, ap, ◌∙◌, subst, inl, inr, append_assoc, append-nil, arith, true-eqb, false-eqb, MatchOption}
use Rattle.conformance.specs.Encoding.{Gains, HexDigit, Hexadecimal, IsPiece, Itself, Repeated, Wide, Writes, bytes_of}
use Rattle.conformance.specs.Encoding.Writes.{nothing, piece}
use Rattle.conformance.specs.declared.piece.Piece.{Piece}
use Rattle.std.proofs.lemmas.List.{replicate_more}

none_of : (w : List ℕ) → ((p : Piece) → Itself w p → ⊥) → ((p : Piece) → Hexadecimal w p → ⊥) → ((p : Piece) → Repeated w p → ⊥) → (p : Piece) → IsPiece w p → ⊥
none_of w a b c p (inl h) = a p h
none_of w a b c p (inr (inl h)) = b p h
none_of w a b c p (inr (inr h)) = c p h

-- where the first two forms are none, the third decides
pub third : (w : List ℕ) (r : Option Piece) → ((p : Piece) → Itself w p → ⊥) → ((p : Piece) → Hexadecimal w p → ⊥) → MatchOption r ((p : Piece) → Repeated w p → ⊥) (Repeated w) → MatchOption r ((p : Piece) → IsPiece w p → ⊥) (IsPiece w)
third w None a b c = none_of w a b c
third w (Some q) a b c = inr (inr c)

pub wide : (w : List ℕ) (p : Piece) → IsPiece w p → Wide w p
wide w p (inl h) = record { some = omega (arith, h.width); within = omega (arith, h.width, h.long) }
wide w p (inr (inl h)) = record { some = omega (arith, h.width); within = omega (arith, h.width, h.long) }
wide w p (inr (inr h)) = record { some = omega (arith, h.width); within = omega (arith, h.width, h.long) }

pub third_wide : (w : List ℕ) (r : Option Piece) → MatchOption r ((p : Piece) → Repeated w p → ⊥) (Repeated w) → IfSome r (Wide w)
third_wide w None c = tt
third_wide w (Some q) c = wide w q (inr (inr c))

no_star : (b v : ℕ) → b ≡ 42 → HexDigit b v → ⊥
no_star b v e (inl h) = omega (arith, e, h.0)
no_star b v e (inr h) = omega (arith, e, h.0)

-- the pieces that one written text begins with are equally wide
pub one_width : (w : List ℕ) (p q : Piece) → IsPiece w p → IsPiece w q → p.width ≡ q.width
one_width w p q (inl h) (inl k) = h.width ∙ sym k.width
one_width w p q (inl h) (inr (inl k)) = absurd (h.plain.other k.sign)
one_width w p q (inl h) (inr (inr k)) = absurd (h.plain.other k.sign)
one_width w p q (inr (inl h)) (inl k) = absurd (k.plain.other h.sign)
one_width w p q (inr (inl h)) (inr (inl k)) = h.width ∙ sym k.width
one_width w p q (inr (inl h)) (inr (inr k)) = absurd (no_star _ _ k.star h.high_is)
one_width w p q (inr (inr h)) (inl k) = absurd (k.plain.other h.sign)
one_width w p q (inr (inr h)) (inr (inl k)) = absurd (no_star _ _ h.star k.high_is)
one_width w p q (inr (inr h)) (inr (inr k)) = h.width ∙ sym k.width

-- some text is written so
pub record Text (w : List ℕ) : Type 0 where
  pub text : List ℕ
  pub writes : Writes w text

-- so far: what the rest writes comes after the bytes so far, and the rest writes a text where the whole does
pub record SoFar (whole so_far rest : List ℕ) : Type 0 where
  pub joins : (t : List ℕ) → Writes rest t → Writes whole (so_far ++ t)
  pub leaves : (t : List ℕ) → Writes whole t → Text rest

pub begins : (w : List ℕ) → SoFar w [] w
begins w = record { joins = λ t h. h; leaves = λ t h. record { text = t; writes = h } }

-- what is written after the first piece
after_piece : (w t : List ℕ) (p : Piece) → 0 < length w → IsPiece w p → Writes w t → Text (drop p.width w)
after_piece _ _ p some is nothing = absurd (omega (arith, some))
after_piece w _ p some is (piece {rest = rest} q k h) = subst (λ n. Text (drop n w)) (one_width w q p k is) (record { text = rest; writes = h })

pub one_more : (whole so_far rest more : List ℕ) (p : Piece) → 0 < length rest → IsPiece rest p → Gains so_far p more → SoFar whole so_far rest → SoFar whole more (drop p.width rest)
one_more whole so_far rest more p some is gains s = record {
  joins = λ t h. subst (Writes whole) (sym (append_assoc so_far (bytes_of p) t) ∙ ap (λ m. m ++ t) (sym gains)) (s.joins _ (piece p is h));
  leaves = λ t h. let left = s.leaves t h in after_piece rest left.text p some is left.writes;
}

none_written : (w u : List ℕ) → 0 < length w → ((p : Piece) → IsPiece w p → ⊥) → Writes w u → ⊥
none_written _ _ some none nothing = omega (arith, some)
none_written w _ some none (piece q k h) = none q k

-- where the rest begins with no piece, no text is written
pub stuck : (whole so_far rest : List ℕ) → 0 < length rest → ((p : Piece) → IsPiece rest p → ⊥) → SoFar whole so_far rest → (t : List ℕ) → Writes whole t → ⊥
stuck whole so_far rest some none s t h = let left = s.leaves t h in none_written rest left.text some none left.writes

-- where nothing is left, all is written
pub done : (whole so_far rest : List ℕ) → rest ≡ [] → SoFar whole so_far rest → Writes whole so_far
done whole so_far rest e s = subst (Writes whole) (append-nil so_far) (s.joins [] (subst (λ w. Writes w []) (sym e) nothing))

-- one byte more of a piece
pub gain_more : (old items new : List ℕ) (n b : ℕ) → items ≡ old ++ replicate n b → new ≡ items ++ b ∷ [] → new ≡ old ++ replicate (n + 1) b
gain_more old items new n b h k = k ∙ ap (λ l. l ++ b ∷ []) h ∙ append_assoc old (replicate n b) (b ∷ []) ∙ ap (λ l. old ++ l) (replicate_more n b)

pub some_left : (w : List ℕ) → false ≡ eqb (length w) 0 → 0 < length w
some_left [] e = absurd (false-eqb 0 0 e refl)
some_left (b ∷ w) e = omega arith

pub none_left : (w : List ℕ) → true ≡ eqb (length w) 0 → w ≡ []
none_left [] e = refl
none_left (b ∷ w) e = absurd (omega (arith, true-eqb (length (b ∷ w)) 0 e))
