-- The text of a civil time, by its parts, and back. Assumes nothing.
use Rattle.std.proofs.Common.{◌≡◌, ℕ, ◌+◌, ◌-◌, ◌<◌, ◌≤◌, List, [], ◌∷◌, ◌++◌, length, get_or, take, drop, codes, sym, refl, ap, ◌∙◌, subst, arith, take-append-drop}
use borrow.Rule.Slice.PartMut.{put_mid}
use Rattle.std.proofs.lemmas.List.{drop_all, drop-drop, drop_more, length-drop, length-take-le}
use Rattle.decimal.specs.Decimal.{fixed}
use Rattle.decimal.proofs.Widths.{same_from_fixed}
use Rattle.calendar.specs.declared.Civil.{Civil}
use Rattle.calendar.specs.Calendar.{Lawful, text_of}
use Rattle.calendar.specs.Form.{Marked, Field, NoCivil, with_digits}
use Rattle.calendar.proofs.Years.{month_short}

-- each part of the civil time stands in its place
pub record Fields (text : List ℕ) (c : Civil) : Type 0 where
  pub year : Field text 0 4 c.year
  pub month : Field text 5 2 c.month
  pub day : Field text 8 2 c.day
  pub hour : Field text 11 2 c.hour
  pub minute : Field text 14 2 c.minute
  pub second : Field text 17 2 c.second

marked_text : (c : Civil) → Marked (text_of c)
unfolding text_of fixed
marked_text c = record { long = refl; after_year = refl; after_month = refl; after_day = refl; after_hour = refl; after_minute = refl; after_second = refl }

pub fields_text : (c : Civil) → Lawful c → Fields (text_of c) c
unfolding text_of fixed
fields_text c l =
    let short = month_short c.year c.month l.year_from l.year_to l.month_from l.month_to in
    record {
      year = record { below = omega arith; digits = refl };
      month = record { below = omega arith; digits = refl };
      day = record { below = omega arith; digits = refl };
      hour = record { below = omega arith; digits = refl };
      minute = record { below = omega arith; digits = refl };
      second = record { below = omega arith; digits = refl };
    }

-- a text without its marks is not that of a civil time
pub no_marks : (text : List ℕ) → (Marked text → ⊥) → NoCivil text
no_marks text none c l e = none (subst Marked (sym e) (marked_text c))

-- nor is one that lacks the digits of a part
pub no_part : (text : List ℕ) (at w : ℕ) (part : Civil → ℕ) → ((c : Civil) → Lawful c → Field (text_of c) at w (part c)) → ((n : ℕ) → Field text at w n → ⊥) → NoCivil text
no_part text at w part has none c l e = none (part c) (subst (λ t. Field t at w (part c)) (sym e) (has c l))

-- the digits at a place are those of one number
same_part : (text : List ℕ) (at w m n : ℕ) → Field text at w m → Field text at w n → m ≡ n
same_part text at w m n f g = same_from_fixed w m n f.below g.below (sym f.digits ∙ g.digits)

pub same_from_fields : (text : List ℕ) (c d : Civil) → Fields text c → Fields text d → c ≡ d
same_from_fields text c d f g =
    λ i. record {
      year = same_part text 0 4 _ _ f.year g.year i;
      month = same_part text 5 2 _ _ f.month g.month i;
      day = same_part text 8 2 _ _ f.day g.day i;
      hour = same_part text 11 2 _ _ f.hour g.hour i;
      minute = same_part text 14 2 _ _ f.minute g.minute i;
      second = same_part text 17 2 _ _ f.second g.second i;
    }

-- lawful civil times with the same text are the same
pub same_from_text : (c d : Civil) → Lawful c → Lawful d → text_of c ≡ text_of d → c ≡ d
same_from_text c d l k e = same_from_fields (text_of d) c d (subst (λ t. Fields t c) e (fields_text c l)) (fields_text d k)

-- a text whose parts are those of a civil time that is not lawful
pub no_lawful : (text : List ℕ) (c : Civil) → Fields text c → (Lawful c → ⊥) → NoCivil text
no_lawful text c f none d l e =
    none (subst Lawful (same_from_fields text d c (subst (λ t. Fields t d) (sym e) (fields_text d l)) f) l)

-- the digits at a place, the mark after them, and the rest
part : (text : List ℕ) (at w n mark : ℕ) (rest : List ℕ) → at + w < length text → Field text at w n → get_or text (at + w) 0 ≡ mark → drop (at + w + 1) text ≡ rest → drop at text ≡ fixed w n ++ (mark ∷ rest)
part text at w n mark rest h f m r =
    sym (take-append-drop w (drop at text)) ∙ ap (λ t. take w (drop at text) ++ t) (drop-drop w at text ∙ drop_more text (at + w) 0 h)
    ∙ (λ i. f.digits i ++ (m i ∷ r i))

pub text_from_parts : (text : List ℕ) (c : Civil) → Marked text → Fields text c → text ≡ text_of c
unfolding text_of
text_from_parts text c m f =
    part text 0 4 c.year 45 _ (omega arith) f.year m.after_year
    (part text 5 2 c.month 45 _ (omega arith) f.month m.after_month
    (part text 8 2 c.day 84 _ (omega arith) f.day m.after_day
    (part text 11 2 c.hour 58 _ (omega arith) f.hour m.after_hour
    (part text 14 2 c.minute 58 _ (omega arith) f.minute m.after_minute
    (part text 17 2 c.second 90 [] (omega arith) f.second m.after_second (drop_all 20 text (omega arith)))))))

-- the digits are written over a part of the text
pub digits_put : (text : List ℕ) (at w n : ℕ) (out : List ℕ) → at + w ≤ length text → out ≡ fixed (length (take (at + w - at) (drop at text))) n → put_mid at (at + w - at) text out ≡ with_digits text at w n
digits_put text at w n out h e =
    let wide : at + w - at ≡ w = omega arith in
    let long : length (take (at + w - at) (drop at text)) ≡ w = rw wide (length-take-le w (drop at text) (omega (arith, length-drop at text))) in
    let digits : out ≡ fixed w n = rw long at e in
    rw (wide, digits, drop-drop)

-- each part written into its place of a text with the marks
pub text_written : (c : Civil) (t u v w x y : List ℕ) → t ≡ with_digits (codes "0000-00-00T00:00:00Z") 0 4 c.year → u ≡ with_digits t 5 2 c.month → v ≡ with_digits u 8 2 c.day → w ≡ with_digits v 11 2 c.hour → x ≡ with_digits w 14 2 c.minute → y ≡ with_digits x 17 2 c.second → y ≡ text_of c
unfolding text_of fixed
text_written c t u v w x y year month day hour minute second =
    second
    ∙ ap (λ l. with_digits l 17 2 c.second)
    (minute
    ∙ ap (λ l. with_digits l 14 2 c.minute)
    (hour
    ∙ ap (λ l. with_digits l 11 2 c.hour)
    (day ∙ ap (λ l. with_digits l 8 2 c.day) (month ∙ ap (λ l. with_digits l 5 2 c.month) year))))
