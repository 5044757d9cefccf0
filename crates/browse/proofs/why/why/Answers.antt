use Rattle.std.proofs.Common.{arith}
use Rattle.std.proofs.lemmas.Result.{IfOk-weaker}
use Rattle.image_forms.specs.Loads.{Given, Refused}
use Rattle.browse.proofs.FilesLoaded.{Refuses-within}
use Rattle.browse.proofs.why.why.Goals as goal

pub returns-in-Err-2-clause-answered : goal.returns-in-Err-2-clause-answered
returns-in-Err-2-clause-answered g c =
    let first = rw c.in-Ok.is at c.in_ok-bytes.ensures.loaded in
    let second = rw c.in-Err-2.is at c.in_ok-bytes-2.ensures.loaded in
    Given _ first.0 (Refused (Refuses-within _ _ _ _ _ _ record { told = c.load.ensures.same; faults_before = c.load.ensures.more_faults; faults_after = omega arith; taken_before = c.load.ensures.more_taken; taken_after = omega arith } second))

pub returns-clause-answered : goal.returns-clause-answered
returns-clause-answered g c =
    let first = rw c.in-Ok.is at c.in_ok-bytes.ensures.loaded in
    let second = rw (c.in-Ok-2.is, c.load.ensures.same) at c.in_ok-bytes-2.ensures.loaded in
    let explained = rw (c.as_slice.ensures.value, c.as_slice-2.ensures.value) at c.why_texts.ensures in
    IfOk-weaker c.why_texts.result _ _ (λ status done. Given _ first.0 (Given _ second.0 done)) explained
