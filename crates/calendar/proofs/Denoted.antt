-- A text denotes one second at most, and a second has one text at most. Assumes nothing.
use Rattle.std.proofs.Common.{ℕ, ◌<◌, List, sym, ap, ◌∙◌, arith}
use Rattle.calendar.specs.Calendar.{second_of, last_second, text_of, Denotes, NoText, ReadsBack, WritesBack}
use Rattle.calendar.proofs.Seconds.{second_within, same_from_second}
use Rattle.calendar.proofs.Texts.{same_from_text}

pub reads_back : (text : List ℕ) (s : ℕ) → Denotes text s → ReadsBack text s
reads_back text s h other d =
    d.counted ∙ ap second_of (same_from_text d.civil h.civil d.lawful h.lawful (sym d.written ∙ h.written))
    ∙ sym h.counted

pub writes_back : (text : List ℕ) (s : ℕ) → Denotes text s → WritesBack text s
writes_back text s h other d =
    d.written ∙ ap text_of (same_from_second d.civil h.civil d.lawful h.lawful (sym d.counted ∙ h.counted))
    ∙ sym h.written

-- past the last second there is no text
pub no_text : (s : ℕ) → last_second < s → NoText s
no_text s past text d = omega (arith, second_within d.civil d.lawful)
