use Rattle.std.proofs.Common.{sym, ap, ◌∙◌, arith}
use Rattle.frame.proofs.Scalars.{string_bytes_are, string_first, unquoted_bytes}
use Rattle.frame.proofs.texts.string_bytes.Goals as goal
use Rattle.json_text.specs.Grammar.Json.{jstring}

pub returns-in-34 : goal.returns-in-34
returns-in-34 c = λ tree v-is.
    let v = c.args.value.now in
    let by = string_first tree v v-is (omega arith) in
    by.1 ∙ ap jstring (sym (unquoted_bytes v by.0 (string_bytes_are tree by.0 v v-is by.1)))
