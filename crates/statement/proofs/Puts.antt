-- Bytes put behind those in use. Assumes nothing.
use Rattle.std.proofs.Common.{◌≡◌, ℕ, ◌+◌, ◌-◌, ◌≤◌, List, [], ◌++◌, length, take, drop, sym, refl, ap, ◌∙◌, ap₂, arith, length-drop}
use borrow.Rule.Slice.PartMut.{Post-is, post_of, put_mid}
use Rattle.statement.specs.Statement.{Stands}
use Rattle.std.proofs.lemmas.List.{append_assoc, append-nil, drop_at, drop-drop, drop_all, length-append, take_at, take_rest}

-- a text copied behind what stands
pub stands_copy : (text before out more : List ℕ) (end next : ℕ) → Stands text before out → end ≡ length text → next ≡ end + length more → next ≤ length before → Stands (text ++ more) before (put_mid end (next - end) out more)
stands_copy text before out more end next s is far room =
    let front : take end out ≡ text = ap (take end) s.written ∙ take_at text (drop (length text) before) end (sym is) in
    let back : drop next out ≡ drop next before =
    ap (drop next) s.written ∙ ap (λ n. drop n (text ++ drop (length text) before)) next_is ∙ sym (drop-drop (length more) (length text) (text ++ drop (length text) before))
    ∙ ap (drop (length more)) (drop_at text (drop (length text) before) (length text) refl) ∙ drop-drop (length more) (length text) before ∙ ap (λ n. drop n before) (sym next_is) in
    record {
      fits = simp length-append (omega arith);
      written =
          ap₂ (λ a b. a ++ (more ++ b)) front (Post-is end next out (omega arith) ∙ back)
          ∙ sym (append_assoc text more (drop next before))
          ∙ ap (λ n. (text ++ more) ++ drop n before) (next_is ∙ sym (length-append text more));
    }
  where
    next_is : next ≡ length text + length more
    next_is = omega arith

-- a text that stands in the rest of the buffer stands behind the first
pub stands_rest : (text more before between part : List ℕ) (end : ℕ) → Stands text before between → end ≡ length text → Stands more (take (length between - end) (drop end between)) part → Stands (text ++ more) before (put_mid end (length between - end) between part)
stands_rest text more before between part end s is t =
    let long : length between ≡ length before = omega (arith, ap length s.written, length-append text (drop (length text) before), length-drop (length text) before, s.fits) in
    let front : take end between ≡ text = ap (take end) s.written ∙ take_at text (drop (length text) before) end (sym is) in
    let rest : drop end between ≡ drop (length text) before = ap₂ drop is s.written ∙ drop_at text (drop (length text) before) (length text) refl in
    let lent : take (length between - end) (drop end between) ≡ drop (length text) before = take_rest between end ∙ rest in
    let here : part ≡ more ++ drop (length text + length more) before = t.written ∙ ap (λ l. more ++ drop (length more) l) lent ∙ ap (λ l. more ++ l) (drop-drop (length more) (length text) before) in
    let none : post_of end (length between - end) between ≡ [] = Post-is end (length between) between (omega (arith, s.fits)) ∙ drop_all (length between) between (omega arith) in
    record {
      fits = omega (arith, t.fits, ap length lent, length-append text more, length-drop (length text) before, s.fits);
      written =
          ap₂ (λ a b. a ++ (part ++ b)) front none
          ∙ ap (λ l. text ++ l) (append-nil part ∙ here)
          ∙ sym (append_assoc text more (drop (length text + length more) before))
          ∙ ap (λ n. (text ++ more) ++ drop n before) (sym (length-append text more));
    }
