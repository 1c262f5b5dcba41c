-- What writing a transmission's frame to a buffer promises. Assumes nothing.
use Rattle.std.specs.Prelude.{◌≡◌, ℕ, ◌<◌, ◌⊎◌, List, length, take, Ok, Err, Result}
use Rattle.draft.specs.Growing.{Stands}
use Rattle.event.specs.Lawful.{LawfulTransmission}
use Rattle.event.specs.declared.events.Transmission.{Transmission}
use Rattle.frame_reader.specs.Frame.{Frame, Reads}
use Rattle.frame_writer.specs.Tree.{WrittenForm}
use Rattle.refusal.specs.declared.Refusal.{Refusal}
use Rattle.refusal.specs.declared.Refusal.TheVariants.{BufferTooSmall, OutOfRange}

-- the bytes are the transmission's written form, and no others are
pub record OneForm (t : Transmission) (bytes : List ℕ) : Type 0 where
  pub is : WrittenForm t bytes
  pub only : (other : List ℕ) → WrittenForm t other → other ≡ bytes

-- the reader's answer to these bytes, whatever keeps its promise, is this transmission
abbrev pub ReadBack : Transmission → List ℕ → Type 0
ReadBack t bytes = (r : Result Transmission Refusal) → Reads bytes r → r ≡ Ok t

-- the frame stands in the buffer, and its length is told
pub record Written (t : Transmission) (before : List ℕ) (size : ℕ) (after : List ℕ) : Type 0 where
  pub lawful : LawfulTransmission t
  pub bytes : List ℕ
  pub form : OneForm t bytes
  pub long : size ≡ length bytes
  pub stands : Stands bytes before after
  pub frame : Frame (take size after) t
  pub read_back : ReadBack t (take size after)

-- the lawful transmission's frame is longer than the buffer
pub record TooLong (t : Transmission) (buffer : List ℕ) : Type 0 where
  pub lawful : LawfulTransmission t
  pub bytes : List ℕ
  pub form : OneForm t bytes
  pub short : length buffer < length bytes

-- why nothing is written: the transmission is unlawful, or it is not and the buffer is too short
abbrev pub Unwritten : Transmission → List ℕ → Refusal → Type 0
Unwritten t buffer refusal = ((refusal ≡ OutOfRange) × (LawfulTransmission t → ⊥)) ⊎ ((refusal ≡ BufferTooSmall) × TooLong t buffer)

-- the frame stands in the buffer, or it is refused and the buffer is as it was
abbrev pub Writes : Transmission → (before : List ℕ) → Result ℕ Refusal → (after : List ℕ) → Type 0
Writes t before (Ok size) after = Written t before size after
Writes t before (Err refusal) after = (after ≡ before) × Unwritten t before refusal
