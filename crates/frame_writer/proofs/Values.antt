-- The compact text of a tree is a text of it. Assumes nothing.
use Rattle.std.proofs.Common.{◌≡◌, ℕ, List, [], ◌∷◌, ◌++◌, sym, ap, subst, append_assoc, append-nil}
use Rattle.frame.specs.Walks.{quoted}
use Rattle.frame_writer.specs.Compact.{compact, members, other_members, other_values, values}
use Rattle.json_text.specs.Grammar.{Chars, Elements, Elems, Json, Members, Membs, Number, Text, Value}
use Rattle.json_text.specs.Grammar.Each.{no_byte}
use Rattle.json_text.specs.Grammar.Elements.{last_element, next_element}
use Rattle.json_text.specs.Grammar.Elems.{no_elem, elem}
use Rattle.json_text.specs.Grammar.Json.{jnull, jtrue, jfalse, jnumber, jstring, jarray, jobject}
use Rattle.json_text.specs.Grammar.Members.{last_member, next_member}
use Rattle.json_text.specs.Grammar.Membs.{no_memb, memb}
use Rattle.json_text.specs.Grammar.Text.{text}
use Rattle.json_text.specs.Grammar.Value.{is_null, is_true, is_false, is_number, is_string, empty_array, is_array, empty_object, is_object}

-- every number, string and name of the tree is one
abbrev mutual
  pub Sound : Json → Type 0
  Sound jnull = Unit {0}
  Sound jtrue = Unit {0}
  Sound jfalse = Unit {0}
  Sound (jnumber n) = Number n
  Sound (jstring s) = Chars s
  Sound (jarray es) = SoundValues es
  Sound (jobject ms) = SoundMembers ms

  pub SoundValues : Elems → Type 0
  SoundValues no_elem = Unit {0}
  SoundValues (elem e es) = Sound e × SoundValues es

  pub SoundMembers : Membs → Type 0
  SoundMembers no_memb = Unit {0}
  SoundMembers (memb n e ms) = Chars n × (Sound e × SoundMembers ms)

-- a name, a colon and what follows
named : (n s : List ℕ) → 34 ∷ (n ++ (34 ∷ (58 ∷ s))) ≡ quoted n ++ (58 ∷ s)
named n s = ap (λ l. 34 ∷ l) (sym (append_assoc n (34 ∷ []) (58 ∷ s)))

mutual
  pub value_is : (t : Json) → Sound t → Value t (compact t)
  value_is jnull s = is_null
  value_is jtrue s = is_true
  value_is jfalse s = is_false
  value_is (jnumber n) s = is_number s
  value_is (jstring cs) s = is_string s
  value_is (jarray es) s = array_is es s
  value_is (jobject ms) s = object_is ms s

  array_is : (es : Elems) → SoundValues es → Value (jarray es) (91 ∷ (values es ++ (93 ∷ [])))
  array_is no_elem s = empty_array no_byte
  array_is (elem e es) s = is_array (elements_are es s.1 e (compact e) (value_is e s.0))

  elements_are : (es : Elems) → SoundValues es → (e : Json) (v : List ℕ) → Value e v → Elements (elem e es) (v ++ other_values es)
  elements_are no_elem s e v is = last_element no_byte is no_byte
  elements_are (elem f es) s e v is = next_element no_byte is no_byte (elements_are es s.1 f (compact f) (value_is f s.0))

  object_is : (ms : Membs) → SoundMembers ms → Value (jobject ms) (123 ∷ (members ms ++ (125 ∷ [])))
  object_is no_memb s = empty_object no_byte
  object_is (memb n e ms) s = is_object (members_are ms s.1.1 n e (compact e) s.0 (value_is e s.1.0))

  members_are : (ms : Membs) → SoundMembers ms → (n : List ℕ) (e : Json) (v : List ℕ) → Chars n → Value e v → Members (memb n e ms) (quoted n ++ (58 ∷ (v ++ other_members ms)))
  members_are no_memb s n e v n-is is = subst (Members (memb n e no_memb)) (named n (v ++ [])) (last_member no_byte n-is no_byte no_byte is no_byte)
  members_are (memb m f ms) s n e v n-is is =
      subst (Members (memb n e (memb m f ms))) (named n (v ++ other_members (memb m f ms)))
      (next_member no_byte n-is no_byte no_byte is no_byte (members_are ms s.1.1 m f (compact f) s.0 (value_is f s.1.0)))

pub text_is : (t : Json) → Sound t → Text t (compact t)
text_is t s = subst (Text t) (append-nil (compact t)) (text no_byte (value_is t s) no_byte)
