use Rattle.std.proofs.Common.{subst, List, ℕ, Global}
use Rattle.std.specs.Prelude.{map, string_bytes}
use Rattle.rb_base.specs.Outside.{Sends}
use Rattle.browse.proofs.NoWrite.{no_write}
use Rattle.browse.proofs.top.browse.Goals as goal

pub returns-in-Ok-send-clause-exact : goal.returns-in-Ok-send-clause-exact
returns-in-Ok-send-clause-exact g c = λ honest status bytes answer _ _.
    let same = c.has_one_answer.ensures _ (map (string_bytes {Z = Global}) c.args.words.now) _ _ _ _ honest c.in-Ok.ensures.answered answer in
    (same.0, subst (λ (x : List ℕ). Sends x (g.K.Sink.sent c.args.out.now) (g.K.Sink.sent c.send.new.out)) same.1 (rw c.as_slice.ensures at c.in-Ok-send.ensures.ok))

pub returns-in-Ok-send-clause-write : goal.returns-in-Ok-send-clause-write
returns-in-Ok-send-clause-write g c = λ is. absurd (no_write _ (map (string_bytes {Z = Global}) c.args.words.now) _ _ c.in-Ok.ensures.answered is)

pub returns-in-Ok-send-clause-write_cause : goal.returns-in-Ok-send-clause-write_cause
returns-in-Ok-send-clause-write_cause g c = λ is. absurd (no_write _ (map (string_bytes {Z = Global}) c.args.words.now) _ _ c.in-Ok.ensures.answered is)
