-- A draft in which a do-it takes the place of another.
use Rattle.std.proofs.Common.{◌≡◌, ℕ, ◌≤◌, zero, suc, List, [], ◌∷◌, length, map, Option, Some, None, false, slice_set, refl, sym, ap, subst, ◌∙◌}
use Rattle.class_table.specs.declared.record.DoIt.{DoIt}
use Rattle.class_table.specs.View.{doit_of}
use Rattle.file_model.specs.Changes.{RunOf}
use Rattle.image_draft.specs.declared.draft.Draft.{Draft}
use Rattle.image_draft.specs.Drafted.{IsWhole}
use Rattle.placed_draft.specs.declared.placed_draft.PlacedDraft.{PlacedDraft}
use Rattle.placed_draft.specs.Placed as whole

-- the do-its for which those of the program stand
pub doits_set : (xs : List DoIt) (k : ℕ) (x : DoIt) → map doit_of (slice_set xs k x) ≡ slice_set (map doit_of xs) k (doit_of x)
doits_set [] k x = refl
doits_set (y ∷ ys) zero x = refl
doits_set (y ∷ ys) (suc k) x = ap (λ zs. doit_of y ∷ zs) (doits_set ys k x)

-- as many as before
as_many : (xs : List DoIt) (k : ℕ) (x : DoIt) → length (slice_set xs k x) ≡ length xs
as_many [] k x = refl
as_many (y ∷ ys) zero x = refl
as_many (y ∷ ys) (suc k) x = ap suc (as_many ys k x)

no_run : (r : RunOf ℕ) → ◌≡◌ {A = Option (RunOf ℕ)} None (Some r) → ⊥
no_run r e = cc

pub whole_doits : (d e : Draft) (k : ℕ) (x : DoIt) → IsWhole d → e ≡ record d { doits = e.doits; run = None; at_head = false } → e.doits.items ≡ slice_set d.doits.items k x → IsWhole e
whole_doits d e k x w rest set = subst IsWhole (sym rest) (record {
  names_differ = w.names_differ;
  superclasses_before = w.superclasses_before;
  method_classes_there = w.method_classes_there;
  run_class_there = λ r h. absurd (no_run r h);
  heads_within = subst (λ n. d.heads ≤ n) (sym (ap length set ∙ as_many d.doits.items k x)) w.heads_within;
})

-- where no run stands open
pub whole_left : (p : PlacedDraft) (e : Draft) → whole.IsWhole p → e ≡ record p.draft { run = None; at_head = false } → whole.IsWhole (record p { draft = e })
whole_left p e h is = subst (λ (x : Draft). whole.IsWhole (record p { draft = x })) (sym is) (record {
  draft = record {
    names_differ = h.draft.names_differ;
    superclasses_before = h.draft.superclasses_before;
    method_classes_there = h.draft.method_classes_there;
    run_class_there = λ r k. absurd (no_run r k);
    heads_within = h.draft.heads_within;
  };
  order = h.order;
})
