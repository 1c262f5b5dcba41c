use Rattle.std.proofs.Common.{◌≡◌, suc, [], ◌∷◌, ◌++◌, length, take, drop, sym, ap, ◌∙◌, append_assoc, arith, length-append, take-append-drop}
use Rattle.json_text.specs.Parts.{value_length}
use Rattle.json_text.proofs.Skips.{string_all, value_length_is}
use Rattle.json_text.proofs.parts.split_value.Goals as goal
use Rattle.std.proofs.lemmas.List.{drop_at, take_at}

pub returns : goal.returns
returns c =
    let s = c.args.s.now in
    let n = c.value_length-length.result in
    let cut = c.split_at.ensures in
    record {
      parts = λ v rest sp.
          let long : length v ≡ n = sym (c.value_length-length.ensures.value ∙ ap value_length sp.whole ∙ value_length_is rest sp.is sp.on) in
          (cut.front ∙ ap (take n) sp.whole ∙ take_at v rest n long, cut.back ∙ ap (drop n) sp.whole ∙ drop_at v rest n long);
      text = λ cs rest e cs-are.
          let v = 34 ∷ (cs ++ (34 ∷ [])) in
          let joined : s ≡ v ++ rest = e ∙ ap (λ l. 34 ∷ l) (sym (append_assoc cs (34 ∷ []) rest)) in
          let long : length v ≡ n = sym (c.value_length-length.ensures.value ∙ ap value_length e ∙ ap suc (string_all rest cs-are) ∙ omega (arith, length-append cs (34 ∷ []))) in
          (cut.front ∙ ap (take n) joined ∙ take_at v rest n long, cut.back ∙ ap (drop n) joined ∙ drop_at v rest n long);
      whole = (λ i. cut.front i ++ cut.back i) ∙ take-append-drop n s;
    }
