use Rattle.std.proofs.Common.{List, Some, None, Option, All, Contains, MatchOption}
use Rattle.std.proofs.lemmas.List.Elements.{All-contains}
use Rattle.event.proofs.names.find_named.Goals as goal

-- what holds of each of a list that has them all holds of all
of_all : {K : Type 0} (P Q : K → Type 0) (kinds : List K) (r : Option K) → ((kind : K) → Contains kinds kind) → MatchOption r (All P kinds) Q → MatchOption r ((kind : K) → P kind) Q
of_all P Q kinds None all h = λ kind. All-contains P kinds kind h (all kind)
of_all P Q kinds (Some kind) all h = h

pub returns : goal.returns
returns g c = of_all _ _ c.all.result.now c.first_named.result c.all.ensures c.first_named.ensures
