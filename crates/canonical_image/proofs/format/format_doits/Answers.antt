use Rattle.std.proofs.Common.{◌≡◌, ◌≤◌, ◌+◌, ◌∙◌, suc, sym, ap, subst, length, List, ℕ, slice_get, arith}
use Rattle.std.proofs.lemmas.Result.{err_from_is_err_and}
use Rattle.class_table.specs.declared.record.DoIt.{DoIt}
use Rattle.class_table.specs.Slots.{Slots}
use Rattle.class_table.specs.Changing.{changed_at}
use Rattle.class_table.specs.Valid.{IsOrderly}
use Rattle.canonical_image.specs.Sources.{canonical_doit_rec, first_changed, KnowsDoIt}
use Rattle.canonical_image.proofs.Slots.{first_next, first_more, first_all, length-first}
use Rattle.canonical_image.proofs.Orderly.{doit_known, orderly_first}
use Rattle.canonical_image.proofs.format.format_doits.Goals as goal

pub format_number-requires-clause-known : goal.format_number-requires-clause-known
format_number-requires-clause-known g c =
    let s = c.args.image.now in
    let n = c.loop-number.number in
    let is = c.loop-number.invariant.is in
    λ d e. subst (λ (names : List (List ℕ)). KnowsDoIt names d) (sym (ap (λ (t : Slots). t.names) is))
    (doit_known s.names s.doits n d c.requires.names_known.doits (sym (first_next (canonical_doit_rec s.names) n s.doits) ∙ sym (ap (λ (t : Slots). slice_get t.doits n) is) ∙ e))

pub loop-number-preserved : goal.loop-number-preserved
loop-number-preserved g c =
    let s = c.args.image.now in
    let n = c.loop-number.number in
    let next : suc n ≡ n + 1 = omega arith in
    record {
      is = c.in_ok-format_number.ensures.doits
          ∙ ap (λ (t : Slots). let u : Slots = record t { doits = changed_at (canonical_doit_rec t.names) t.doits n } in u) c.loop-number.invariant.is
          ∙ ap (λ (ds : List DoIt). let u : Slots = record s { doits = ds } in u) (first_more (canonical_doit_rec s.names) n s.doits ∙ ap (λ (k : ℕ). first_changed (canonical_doit_rec s.names) k s.doits) next);
    }

pub returns-clause-doits : goal.returns-clause-doits
returns-clause-doits g c =
    let s = c.args.image.now in
    let n = c.loop-number.number in
    let is = c.loop-number.invariant.is in
    let enough : length s.doits ≤ n = omega (arith, c.loop-number-test.false, c.doits.ensures, ap (λ (t : Slots). length t.doits) is, length-first (canonical_doit_rec s.names) n s.doits) in
    is ∙ ap (λ (ds : List DoIt). let u : Slots = record s { doits = ds } in u) (first_all (canonical_doit_rec s.names) n s.doits enough)

pub returns-clause-orderly : goal.returns-clause-orderly
returns-clause-orderly g c = subst (λ (t : Slots). IsOrderly t) (sym c.loop-number.invariant.is) (orderly_first c.args.image.now c.loop-number.number c.requires)

pub returns-in_err-format_number-clause-orderly : goal.returns-in_err-format_number-clause-orderly
returns-in_err-format_number-clause-orderly g c =
    subst (λ (t : Slots). IsOrderly t) (sym (c.in_err-format_number.ensures.kept ∙ c.loop-number.invariant.is)) (orderly_first c.args.image.now c.loop-number.number c.requires)

pub returns-in_err-format_number-clause-part : goal.returns-in_err-format_number-clause-part
returns-in_err-format_number-clause-part g c =
    let e = err_from_is_err_and c.from_residual.result c.from_residual.ensures.1 in
    rw e.1 (c.loop-number.number, c.in_err-format_number.ensures.kept ∙ c.loop-number.invariant.is)
