-- A machine that reads JSON text byte by byte. That it agrees with the grammar is proved, both ways. Assumes nothing.
use Rattle.std.specs.Prelude.{ℕ, Bool, true, false, cond, ◌&&◌, List, [], ◌∷◌, ◌==◌}
use Rattle.json_text.specs.Grammar.{digit, escapable, hex, nonzero, plain, power, sign, white}

-- what is open: arrays and objects, the innermost first
pub data Kind : Type 0 where
  arr : Kind
  obj : Kind

-- what may come next
pub data Mode : Type 0 where
  -- a value
  value : Mode
  -- a value, or the end of the array that was just opened
  first : Mode
  -- a member's name
  name : Mode
  -- a member's name, or the end of the object that was just opened
  opened : Mode
  colon : Mode
  -- what follows a value
  after : Mode
  -- the rest of a string, which is a member's name or not; what follows its backslash; hexadecimal digits, three more after this one or fewer
  chars : Bool → Mode
  escaped : Bool → Mode
  hex4 : Bool → Mode
  hex3 : Bool → Mode
  hex2 : Bool → Mode
  hex1 : Bool → Mode
  -- the rest of a literal: its next byte and those after it
  literal : ℕ → List ℕ → Mode
  -- a number: after its minus, its leading 0, a digit, its point, a digit after it, its e, the sign after it, a digit after that
  minused : Mode
  zeroed : Mode
  whole : Mode
  pointed : Mode
  places : Mode
  powered : Mode
  signed : Mode
  scaled : Mode

pub data State : Type 0 where
  dead : State
  live : Mode → List Kind → State

-- the byte after a value
abbrev pub go_on : List Kind → ℕ → State
go_on [] b = cond (white b) (live after []) dead
go_on (arr ∷ k) b = cond (white b) (live after (arr ∷ k)) (cond (b == 44) (live value (arr ∷ k)) (cond (b == 93) (live after k) dead))
go_on (obj ∷ k) b = cond (white b) (live after (obj ∷ k)) (cond (b == 44) (live name (obj ∷ k)) (cond (b == 125) (live after k) dead))

-- the first byte of a value
abbrev pub start : List Kind → ℕ → State
start k b =
    cond (b == 34) (live (chars false) k)
    (cond (b == 91) (live first (arr ∷ k))
    (cond (b == 123) (live opened (obj ∷ k))
    (cond (b == 45) (live minused k)
    (cond (b == 48) (live zeroed k)
    (cond (nonzero b) (live whole k)
    (cond (b == 116) (live (literal 114 (117 ∷ 101 ∷ [])) k)
    (cond (b == 102) (live (literal 97 (108 ∷ 115 ∷ 101 ∷ [])) k)
    (cond (b == 110) (live (literal 117 (108 ∷ 108 ∷ [])) k) dead))))))))

-- the end of a string
abbrev pub closed : Bool → List Kind → State
closed true k = live colon k
closed false k = live after k

-- the byte after a whole number that may have a fraction or an exponent
abbrev pub after_whole : List Kind → ℕ → State
after_whole k b = cond (b == 46) (live pointed k) (cond (power b) (live powered k) (go_on k b))

-- the byte of an empty array or object's end, or of its beginning
abbrev pub first_step : List Kind → ℕ → State
first_step [] b = dead
first_step (arr ∷ k) b = cond (white b) (live first (arr ∷ k)) (cond (b == 93) (live after k) (start (arr ∷ k) b))
first_step (obj ∷ k) b = dead

abbrev pub opened_step : List Kind → ℕ → State
opened_step [] b = dead
opened_step (arr ∷ k) b = dead
opened_step (obj ∷ k) b = cond (white b) (live opened (obj ∷ k)) (cond (b == 125) (live after k) (cond (b == 34) (live (chars true) (obj ∷ k)) dead))

abbrev pub literal_step : List ℕ → List Kind → State
literal_step [] k = live after k
literal_step (c ∷ cs) k = live (literal c cs) k

abbrev pub move : Mode → List Kind → ℕ → State
move value k b = cond (white b) (live value k) (start k b)
move first k b = first_step k b
move name k b = cond (white b) (live name k) (cond (b == 34) (live (chars true) k) dead)
move opened k b = opened_step k b
move colon k b = cond (white b) (live colon k) (cond (b == 58) (live value k) dead)
move after k b = go_on k b
move (chars n) k b = cond (b == 34) (closed n k) (cond (b == 92) (live (escaped n) k) (cond (plain b) (live (chars n) k) dead))
move (escaped n) k b = cond (escapable b) (live (chars n) k) (cond (b == 117) (live (hex4 n) k) dead)
move (hex4 n) k b = cond (hex b) (live (hex3 n) k) dead
move (hex3 n) k b = cond (hex b) (live (hex2 n) k) dead
move (hex2 n) k b = cond (hex b) (live (hex1 n) k) dead
move (hex1 n) k b = cond (hex b) (live (chars n) k) dead
move (literal c cs) k b = cond (b == c) (literal_step cs k) dead
move minused k b = cond (b == 48) (live zeroed k) (cond (nonzero b) (live whole k) dead)
move zeroed k b = after_whole k b
move whole k b = cond (digit b) (live whole k) (after_whole k b)
move pointed k b = cond (digit b) (live places k) dead
move places k b = cond (digit b) (live places k) (cond (power b) (live powered k) (go_on k b))
move powered k b = cond (sign b) (live signed k) (cond (digit b) (live scaled k) dead)
move signed k b = cond (digit b) (live scaled k) dead
move scaled k b = cond (digit b) (live scaled k) (go_on k b)

abbrev pub step : State → ℕ → State
step dead b = dead
step (live m k) b = move m k b

abbrev pub run : State → List ℕ → State
run s [] = s
run s (b ∷ bs) = run (step s b) bs

-- where a text may end
abbrev pub ending : Mode → Bool
ending value = false
ending first = false
ending name = false
ending opened = false
ending colon = false
ending after = true
ending (chars n) = false
ending (escaped n) = false
ending (hex4 n) = false
ending (hex3 n) = false
ending (hex2 n) = false
ending (hex1 n) = false
ending (literal c cs) = false
ending minused = false
ending zeroed = true
ending whole = true
ending pointed = false
ending places = true
ending powered = false
ending signed = false
ending scaled = true

abbrev pub none_open : List Kind → Bool
none_open [] = true
none_open (k ∷ ks) = false

abbrev pub accepts : State → Bool
accepts dead = false
accepts (live m k) = ending m && none_open k

-- the whole text
abbrev pub begin : State
begin = live value []
