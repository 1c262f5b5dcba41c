-- What the scanner's values mean to the machine. Assumes nothing.
use Rattle.std.specs.Prelude.{◌≡◌, Bool, List, [], ◌∷◌, Some, None, Option}
use Rattle.json_text.specs.Machine.{Kind, State}
use Rattle.json_text.specs.Machine.{Mode as MachineMode}
use Rattle.json_text.specs.Machine.Kind.{arr, obj}
use Rattle.json_text.specs.Machine.Mode.{value, first, name, opened, colon, after, chars, escaped, hex1, hex2, hex3, hex4, literal, minused, zeroed, whole, pointed, places, powered, signed, scaled}
use Rattle.json_text.specs.Machine.State.{dead, live}
use Rattle.json_text.specs.declared.mode.Container.{Container}
use Rattle.json_text.specs.declared.mode.Container.TheVariants.{Array, Object}
use Rattle.json_text.specs.declared.mode.Mode.{Mode}
use Rattle.json_text.specs.declared.mode.Mode.TheVariants.{Value, First, Name, Opened, Colon, After, Text, Figure, Word}
use Rattle.json_text.specs.declared.mode.Move.{Move}
use Rattle.json_text.specs.declared.mode.Move.TheVariants.{To, Open, Close}
use Rattle.json_text.specs.declared.mode.NumberPart.{NumberPart}
use Rattle.json_text.specs.declared.mode.NumberPart.TheVariants.{Minus, Zero, Whole, Point, Places, Power, Sign, Scale}
use Rattle.json_text.specs.declared.mode.StringPart.{StringPart}
use Rattle.json_text.specs.declared.mode.StringPart.TheVariants.{Chars, Escaped, Hex4, Hex3, Hex2, Hex1}
use Rattle.json_text.specs.declared.mode.WordRest.{WordRest}
use Rattle.json_text.specs.declared.mode.WordRest.TheVariants.{Rue, Ue, E, Alse, Lse, Se, Ull, Ll, L}

abbrev pub kind_of : Container → Kind
kind_of Array = arr
kind_of Object = obj

abbrev pub text_mode : StringPart → Bool → MachineMode
text_mode Chars n = chars n
text_mode Escaped n = escaped n
text_mode Hex4 n = hex4 n
text_mode Hex3 n = hex3 n
text_mode Hex2 n = hex2 n
text_mode Hex1 n = hex1 n

abbrev pub figure_mode : NumberPart → MachineMode
figure_mode Minus = minused
figure_mode Zero = zeroed
figure_mode Whole = whole
figure_mode Point = pointed
figure_mode Places = places
figure_mode Power = powered
figure_mode Sign = signed
figure_mode Scale = scaled

abbrev pub word_mode : WordRest → MachineMode
word_mode Rue = literal 114 (117 ∷ 101 ∷ [])
word_mode Ue = literal 117 (101 ∷ [])
word_mode E = literal 101 []
word_mode Alse = literal 97 (108 ∷ 115 ∷ 101 ∷ [])
word_mode Lse = literal 108 (115 ∷ 101 ∷ [])
word_mode Se = literal 115 (101 ∷ [])
word_mode Ull = literal 117 (108 ∷ 108 ∷ [])
word_mode Ll = literal 108 (108 ∷ [])
word_mode L = literal 108 []

abbrev pub mode_of : Mode → MachineMode
mode_of Value = value
mode_of First = first
mode_of Name = name
mode_of Opened = opened
mode_of Colon = colon
mode_of After = after
mode_of (Text p n) = text_mode p n
mode_of (Figure p) = figure_mode p
mode_of (Word w) = word_mode w

-- the innermost open container
abbrev pub top : List Kind → Option Container
top [] = None
top (arr ∷ k) = Some Array
top (obj ∷ k) = Some Object

abbrev pub outer : List Kind → List Kind
outer [] = []
outer (x ∷ k) = k

-- the state after a container was opened
abbrev pub opened_in : Container → List Kind → State
opened_in Array k = live first (arr ∷ k)
opened_in Object k = live opened (obj ∷ k)

-- the state that a move leads to, or none
abbrev pub moved : Option Move → List Kind → State
moved None k = dead
moved (Some (To m)) k = live (mode_of m) k
moved (Some (Open c)) k = opened_in c k
moved (Some Close) k = live after (outer k)

-- the move is right, whatever is open
abbrev pub Right : Option Move → (List Kind → State) → Type 0
Right r to = (k : List Kind) → moved r k ≡ to k

-- the move is right where this container is the innermost
abbrev pub RightIn : Option Container → Option Move → (List Kind → State) → Type 0
RightIn inner r to = (k : List Kind) → top k ≡ inner → moved r k ≡ to k

-- what is open, the innermost first, where these are opened in turn
abbrev pub stacked : List Kind → List Container → List Kind
stacked k [] = k
stacked k (c ∷ cs) = stacked (kind_of c ∷ k) cs

-- what is open, the innermost first, by the containers from the outermost on
abbrev pub stack : List Container → List Kind
stack held = stacked [] held
