-- The array of four that a call of TransactionEvent is. Assumes nothing.
use Rattle.std.specs.Prelude.{◌≡◌, ℕ, List, codes, ◌≢◌}
use Rattle.frame.specs.declared.call.Four.{Four}
use Rattle.frame.specs.declared.call.Parts.{Parts}
use Rattle.frame.specs.Walks.{Begins, BehindIn}
use Rattle.json_text.specs.Grammar.{Elems, Json, Membs, Value}
use Rattle.json_text.specs.Grammar.Elems.{no_elem, elem}
use Rattle.json_text.specs.Grammar.Json.{jarray, jnumber, jobject, jstring}

abbrev pub array_of_four : (a b c d : Json) → Json
array_of_four a b c d = jarray (elem a (elem b (elem c (elem d no_elem))))

-- the value is an array of these values and the others
pub record FourOf (tree : Json) (four : Four) : Type 0 where
  pub a : Json
  pub b : Json
  pub c : Json
  pub d : Json
  pub others : Elems
  pub is : tree ≡ jarray (elem a (elem b (elem c (elem d others))))
  pub first_is : Value a four.first.now
  pub second_is : Value b four.second.now
  pub third_is : Value c four.third.now
  pub behind : List ℕ
  pub end : List ℕ
  pub fourth_is : Begins d four.fourth.now behind
  pub more : BehindIn others behind end

abbrev pub NotFour : Json → Type 0
NotFour tree = (a b c d : Json) → tree ≢ array_of_four a b c d

-- the number 2, the message id, the action and the payload
pub record Call (tree : Json) (id : List ℕ) (payload : Membs) : Type 0 where
  pub is : tree ≡ array_of_four (jnumber (codes "2")) (jstring id) (jstring (codes "TransactionEvent")) (jobject payload)

-- these are the id and the payload of the call
pub record CallOf (tree : Json) (parts : Parts) : Type 0 where
  pub payload : Membs
  pub call : Call tree parts.id.now payload
  pub payload_is : Value (jobject payload) parts.payload.now

-- the array begins as a call does: this is the id, and the payload is next
pub record CallFront (tree : Json) (parts : Parts) : Type 0 where
  pub d : Json
  pub others : Elems
  pub is : tree ≡ jarray (elem (jnumber (codes "2")) (elem (jstring parts.id.now) (elem (jstring (codes "TransactionEvent")) (elem d others))))
  pub behind : List ℕ
  pub end : List ℕ
  pub payload_is : Begins d parts.payload.now behind
  pub more : BehindIn others behind end

abbrev pub NoCall : Json → Type 0
NoCall tree = (id : List ℕ) (payload : Membs) → Call tree id payload → ⊥
