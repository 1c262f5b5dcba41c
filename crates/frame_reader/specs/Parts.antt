-- What is found of the array of four. Assumes nothing.
use Rattle.frame.specs.Call.{Call}
use Rattle.frame_reader.specs.Payload.{FoundAll}
use Rattle.frame_reader.specs.declared.call.Parts.{Parts}
use Rattle.json_text.specs.Grammar.{Json, Membs}

-- this is the id of the call, and this was found in its payload
pub record CallOf (tree : Json) (parts : Parts) : Type 0 where
  pub payload : Membs
  pub call : Call tree parts.id.now payload
  pub payload_is : FoundAll parts.payload payload
