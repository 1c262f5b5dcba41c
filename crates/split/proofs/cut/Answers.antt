use Rattle.std.proofs.Common.{◌≡◌, ◌<◌, length, slice_index, sym, rules, add-one}
use Rattle.std.proofs.lemmas.List.{take_rest}
use Rattle.split.specs.Split.{Free}
use Rattle.split.proofs.Sides.{after_at, after_none, before_at, before_none}
use Rattle.split.proofs.cut.Goals as goal

pub returns-in-Some-clause-front : goal.returns-in-Some-clause-front
returns-in-Some-clause-front c =
    let text = c.args.text.now in
    let i = c.in-Some.place in
    let within : i < length text = search rules in
    let here : slice_index text i ≡ c.args.separator = search rules in
    let free : Free c.args.separator text i = search rules in
    sym (before_at _ text i within here free)

pub returns-in-Some-clause-back : goal.returns-in-Some-clause-back
returns-in-Some-clause-back c =
    let text = c.args.text.now in
    let i = c.in-Some.place in
    let within : i < length text = search rules in
    let here : slice_index text i ≡ c.args.separator = search rules in
    let free : Free c.args.separator text i = search rules in
    simp (take_rest, add-one) (sym (after_at _ text i within here free))

pub returns-in-None-clause-front : goal.returns-in-None-clause-front
returns-in-None-clause-front c =
    let free : Free c.args.separator c.args.text.now (length c.args.text.now) = search rules in
    sym (before_none _ _ free)

pub returns-in-None-clause-back : goal.returns-in-None-clause-back
returns-in-None-clause-back c =
    let free : Free c.args.separator c.args.text.now (length c.args.text.now) = search rules in
    search (rules, after_none c.args.separator c.args.text.now free)
