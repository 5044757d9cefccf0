use Rattle.std.proofs.Common.{ap, ◌∙◌}
use Rattle.chunk_format.specs.Chunks.{piece}
use Rattle.file_model.specs.Filing.{Text}
use Rattle.chunk_forms.specs.Told.{sent_text}
use Rattle.import_model.specs.Steps.{Outside, changed, defined, definition_source}
use Rattle.import_chunks.specs.Told.{strings_text}
use Rattle.import_chunks.proofs.Taking.{Answers-same, definition_refused, definition_made}
use Rattle.import_chunks.proofs.steps.define.Goals as goal

pub returns-in-Some : goal.returns-in-Some
returns-in-Some c = definition_refused (piece c.args.chunk.now) (sent_text c.args.names.now c.args.sent.now) (strings_text c.args.strings.now) c.in-Some.cause c.in-Some.ensures

pub returns : goal.returns
returns c =
    let p = piece c.args.chunk.now in
    let m = sent_text c.args.names.now c.args.sent.now in
    let d = strings_text c.args.strings.now in
    Answers-same (changed p c.in_ok-source.source Outside) (defined p m d)
    (ap (λ (s : Text). changed p s Outside) (c.in_ok-source.ensures ∙ ap (λ (t : Text). definition_source t d) c.text_of.ensures) ∙ definition_made p m d c.in_default.ensures)
    c.args.names.now c.args.out.now c.change.new.out c.change.result (c.change.ensures c.args.names.now)
