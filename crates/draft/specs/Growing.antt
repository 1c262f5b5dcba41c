-- What a draft holds, and how it grows. Assumes nothing.
use Rattle.std.specs.Prelude.{◌≡◌, ℕ, ◌+◌, ◌<◌, ◌≤◌, List, ◌++◌, length, take, drop}
use Rattle.draft.specs.declared.draft.Draft.{Draft}

abbrev pub text_in : Draft → List ℕ
text_in d = take d.len d.bytes

-- the longest text
abbrev pub most : ℕ
most = 1024

-- bytes that fit stand behind the text; else it stays as it was
pub record Grows (before more after : List ℕ) : Type 0 where
  pub taken : length before + length more ≤ most → after ≡ before ++ more
  pub kept : most < length before + length more → after ≡ before

-- the bytes stand at the beginning of a buffer, and the rest of it is as it was
pub record Stands (bytes before after : List ℕ) : Type 0 where
  pub fits : length bytes ≤ length before
  pub written : after ≡ bytes ++ drop (length bytes) before
