-- The two sides of a cut by their places. Assumes nothing.
use Rattle.std.proofs.Common.{◌≡◌, ℕ, zero, suc, ◌<◌, List, [], ◌∷◌, ◌++◌, length, get_or, take, drop, sym, refl, ap, ◌∙◌, le_of_suc-le-suc, arith, take-append-drop, drop-cons}
use Rattle.std.proofs.lemmas.Bool.{eq-eqb, ne_eqb, cond-true, cond-false}
use Rattle.split.specs.Split.{Free, after, before}

-- the separator stands first at i
pub before_at : (s : ℕ) (text : List ℕ) (i : ℕ) → i < length text → get_or text i 0 ≡ s → Free s text i → before s text ≡ take i text
before_at s [] i h e f = absurd (omega arith)
before_at s (b ∷ bs) zero h e f = cond-true _ _ _ (eq-eqb b s e)
before_at s (b ∷ bs) (suc i) h e f =
    cond-false _ _ _ (ne_eqb b s (f 0 (omega arith)))
    ∙ ap (λ l. b ∷ l) (before_at s bs i (le_of_suc-le-suc h) e (λ k l. f (suc k) (omega arith)))

pub after_at : (s : ℕ) (text : List ℕ) (i : ℕ) → i < length text → get_or text i 0 ≡ s → Free s text i → after s text ≡ drop (suc i) text
after_at s [] i h e f = absurd (omega arith)
after_at s (b ∷ bs) zero h e f = cond-true _ _ _ (eq-eqb b s e)
after_at s (b ∷ bs) (suc i) h e f =
    cond-false _ _ _ (ne_eqb b s (f 0 (omega arith)))
    ∙ after_at s bs i (le_of_suc-le-suc h) e (λ k l. f (suc k) (omega arith))

-- there is no separator
pub before_none : (s : ℕ) (text : List ℕ) → Free s text (length text) → before s text ≡ text
before_none s [] f = refl
before_none s (b ∷ bs) f =
    cond-false _ _ _ (ne_eqb b s (f 0 (omega arith)))
    ∙ ap (λ l. b ∷ l) (before_none s bs (λ k l. f (suc k) (omega arith)))

pub after_none : (s : ℕ) (text : List ℕ) → Free s text (length text) → after s text ≡ []
after_none s [] f = refl
after_none s (b ∷ bs) f =
    cond-false _ _ _ (ne_eqb b s (f 0 (omega arith)))
    ∙ after_none s bs (λ k l. f (suc k) (omega arith))

-- the text is its front of i bytes, the separator that stands first at i, and what follows
pub split_at : (s : ℕ) (text : List ℕ) (i : ℕ) → i < length text → get_or text i 0 ≡ s → text ≡ take i text ++ s ∷ drop (suc i) text
split_at s text i h e = sym (take-append-drop i text) ∙ ap (λ l. take i text ++ l) (drop-cons text i 0 h ∙ ap (λ b. b ∷ drop (suc i) text) e)
