-- JSON by the productions of RFC 8259, over bytes. Assumes nothing.
use Rattle.std.specs.Prelude.{◌≡◌, ℕ, Bool, true, not, ◌&&◌, ◌||◌, List, [], ◌∷◌, ◌++◌, codes, ◌==◌, nat_le}

-- A value. Numbers and strings are kept as they are written, strings without their quotes.
mutual
  pub data Json : Type 0 where
    jnull : Json
    jtrue : Json
    jfalse : Json
    jnumber : List ℕ → Json
    jstring : List ℕ → Json
    jarray : Elems → Json
    jobject : Membs → Json

  -- the values of an array, in order
  pub data Elems : Type 0 where
    no_elem : Elems
    elem : Json → Elems → Elems

  -- the members of an object, in order: name and value
  pub data Membs : Type 0 where
    no_memb : Membs
    memb : List ℕ → Json → Membs → Membs

-- space, tab, line feed, carriage return
abbrev pub white : ℕ → Bool
white b = b == 32 || (b == 9 || (b == 10 || b == 13))

abbrev pub digit : ℕ → Bool
digit b = nat_le 48 b && nat_le b 57

-- 1 to 9
abbrev pub nonzero : ℕ → Bool
nonzero b = nat_le 49 b && nat_le b 57

abbrev pub hex : ℕ → Bool
hex b = digit b || ((nat_le 65 b && nat_le b 70) || (nat_le 97 b && nat_le b 102))

-- what stands for itself in a string: no control byte, no quote, no backslash
abbrev pub plain : ℕ → Bool
plain b = nat_le 32 b && (not (b == 34) && not (b == 92))

-- what may follow a backslash by itself: " \ / b f n r t
abbrev pub escapable : ℕ → Bool
escapable b = b == 34 || (b == 92 || (b == 47 || (b == 98 || (b == 102 || (b == 110 || (b == 114 || b == 116))))))

-- e or E
abbrev pub power : ℕ → Bool
power b = b == 101 || b == 69

-- + or -
abbrev pub sign : ℕ → Bool
sign b = b == 43 || b == 45

-- each byte passes the test
pub data Each (test : ℕ → Bool) : List ℕ → Type 0 where
  no_byte : Each test []
  byte : {b : ℕ} {bs : List ℕ} → test b ≡ true → Each test bs → Each test (b ∷ bs)

-- ws
abbrev pub White : List ℕ → Type 0
White = Each white

-- one or more digits
pub data Digits : List ℕ → Type 0 where
  digits : {d : ℕ} {ds : List ℕ} → digit d ≡ true → Each digit ds → Digits (d ∷ ds)

pub data Minus : List ℕ → Type 0 where
  no_minus : Minus []
  minus : Minus (45 ∷ [])

-- 0, or digits without a leading 0
pub data Whole : List ℕ → Type 0 where
  zero_alone : Whole (48 ∷ [])
  from_one : {d : ℕ} {ds : List ℕ} → nonzero d ≡ true → Each digit ds → Whole (d ∷ ds)

pub data Fraction : List ℕ → Type 0 where
  no_fraction : Fraction []
  fraction : {ds : List ℕ} → Digits ds → Fraction (46 ∷ ds)

pub data Sign : List ℕ → Type 0 where
  no_sign : Sign []
  signed : {b : ℕ} → sign b ≡ true → Sign (b ∷ [])

pub data Exponent : List ℕ → Type 0 where
  no_exponent : Exponent []
  exponent : {e : ℕ} {s ds : List ℕ} → power e ≡ true → Sign s → Digits ds → Exponent (e ∷ (s ++ ds))

pub data Number : List ℕ → Type 0 where
  number : {m i f x : List ℕ} → Minus m → Whole i → Fraction f → Exponent x → Number (m ++ (i ++ (f ++ x)))

-- what may stand between two quotes
pub data Chars : List ℕ → Type 0 where
  no_char : Chars []
  char : {b : ℕ} {cs : List ℕ} → plain b ≡ true → Chars cs → Chars (b ∷ cs)
  escape : {b : ℕ} {cs : List ℕ} → escapable b ≡ true → Chars cs → Chars (92 ∷ b ∷ cs)
  unicode : {h i j k : ℕ} {cs : List ℕ} → hex h ≡ true → hex i ≡ true → hex j ≡ true → hex k ≡ true → Chars cs → Chars (92 ∷ 117 ∷ h ∷ i ∷ j ∷ k ∷ cs)

-- The bytes are the value.
mutual
  pub data Value : Json → List ℕ → Type 0 where
    is_null : Value jnull (codes "null")
    is_true : Value jtrue (codes "true")
    is_false : Value jfalse (codes "false")
    is_number : {n : List ℕ} → Number n → Value (jnumber n) n
    is_string : {cs : List ℕ} → Chars cs → Value (jstring cs) (34 ∷ (cs ++ (34 ∷ [])))
    empty_array : {w : List ℕ} → White w → Value (jarray no_elem) (91 ∷ (w ++ (93 ∷ [])))
    is_array : {es : Elems} {bs : List ℕ} → Elements es bs → Value (jarray es) (91 ∷ (bs ++ (93 ∷ [])))
    empty_object : {w : List ℕ} → White w → Value (jobject no_memb) (123 ∷ (w ++ (125 ∷ [])))
    is_object : {ms : Membs} {bs : List ℕ} → Members ms bs → Value (jobject ms) (123 ∷ (bs ++ (125 ∷ [])))

  -- one or more values with white space around each and commas between them
  pub data Elements : Elems → List ℕ → Type 0 where
    last_element : {e : Json} {w v x : List ℕ} → White w → Value e v → White x → Elements (elem e no_elem) (w ++ (v ++ x))
    next_element : {e : Json} {w v x : List ℕ} {es : Elems} {bs : List ℕ} → White w → Value e v → White x → Elements es bs → Elements (elem e es) (w ++ (v ++ (x ++ (44 ∷ bs))))

  -- one or more members: a string, a colon and a value, with white space around each
  pub data Members : Membs → List ℕ → Type 0 where
    last_member : {n : List ℕ} {e : Json} {u y w v x : List ℕ} → White u → Chars n → White y → White w → Value e v → White x → Members (memb n e no_memb) (u ++ (34 ∷ (n ++ (34 ∷ (y ++ (58 ∷ (w ++ (v ++ x))))))))
    next_member : {n : List ℕ} {e : Json} {u y w v x : List ℕ} {ms : Membs} {bs : List ℕ} → White u → Chars n → White y → White w → Value e v → White x → Members ms bs → Members (memb n e ms) (u ++ (34 ∷ (n ++ (34 ∷ (y ++ (58 ∷ (w ++ (v ++ (x ++ (44 ∷ bs))))))))))

-- The bytes are a text of the value: the value with white space around it.
pub data Text : Json → List ℕ → Type 0 where
  text : {t : Json} {w v x : List ℕ} → White w → Value t v → White x → Text t (w ++ (v ++ x))
