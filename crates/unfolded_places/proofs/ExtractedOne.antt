-- An image in which one expression is extracted, and the image before, as one in whose methods parts are others.
use Rattle.std.proofs.Common.{List, [], ◌∷◌, ◌++◌, length, Some, None, refl, sym, ap, ◌∙◌, subst}
use Rattle.std.specs.Prelude.{true}
use Rattle.std.specs.List.{AllByRecursion}
use Rattle.rb_base.specs.Names.{text_eq}
use Rattle.rb_base.proofs.NamesLemmas.{text_eq-refl}
use Rattle.tree_model.specs.Path.{statements_replaced, method_replaced}
use Rattle.image_model.specs.Image.{EntryOf, DoItOf, ImageOf}
use Rattle.image_model.specs.Means.{means_outside}
use Rattle.image_model.specs.Words.{text_words}
use Rattle.run_model.specs.Values.{Name}
use Rattle.resolved_model.specs.Environments.{Declared, opened}
use Rattle.unfolded_places.specs.Becoming.{Becomes, BecomeLines}
use Rattle.unfolded_places.specs.PartsReplaced.{parts_stored, declared_among}
use Rattle.unfolded_places.specs.ImagesChanged.{PartsOf, StoresOf, MethodBecomes, MethodsBecome, methods_end, method_next, method_gone, DoItsStay, doits_end, doit_next, ImageBecomes}
use Rattle.unfolded_places.specs.Inlining.{Filling, filling, IsInlined, IsStored}
use Rattle.unfolded_places.specs.ExtractedOnce.{one_gone, IsSentNowhereIn, IsSentNowhereBy, call_of, IsExtractedOnce}
use Rattle.unfolded_places.proofs.Unchanged.{lines-stay}
use Rattle.unfolded_places.proofs.Replaced.{statements-become}
use Rattle.unfolded_places.proofs.InlinedOne.{part-again}
use Rattle.unfolded_places.proofs.Refilled.{tree-fills}
use Rattle.unfolded_places.proofs.SelfFilled.{themselves, tree-itself}

module _ (j : ImageOf Name) (t : Name) (here : PartsOf) (stores : StoresOf) where
  pub method-kept : (m : EntryOf Name) → IsSentNowhereIn t m → MethodBecomes j (one_gone t) here stores m m
  method-kept m k = record {
    class = refl;
    meta = refl;
    selector = refl;
    primitive = refl;
    arguments = refl;
    temporaries = refl;
    place = None;
    opens = tt;
    statements = lines-stay (here m None) (stores m None) (λ s. text_eq s t) (opened m.tree.arguments m.tree.body.temporaries []) m.tree.body.statements k;
  }

  kept-then : (xs ys zs : List (EntryOf Name)) → AllByRecursion (IsSentNowhereIn t) xs → MethodsBecome j (one_gone t) here stores ys zs → MethodsBecome j (one_gone t) here stores (xs ++ ys) (xs ++ zs)
  kept-then [] ys zs a r = r
  kept-then (x ∷ xs) ys zs a r = method_next (method-kept x a.0) (kept-then xs ys zs a.1 r)

  all-kept : (xs : List (EntryOf Name)) → AllByRecursion (IsSentNowhereIn t) xs → MethodsBecome j (one_gone t) here stores xs xs
  all-kept [] a = methods_end
  all-kept (x ∷ xs) a = method_next (method-kept x a.0) (all-kept xs a.1)

  pub doits-kept : (ds : List (DoItOf Name)) → AllByRecursion (IsSentNowhereBy t) ds → DoItsStay j (one_gone t) here stores ds ds
  doits-kept [] a = doits_end
  doits-kept (d ∷ ds) a = doit_next refl a.0 (doits-kept ds a.1)

pub extracted-image : (i j : ImageOf Name) → (h : IsExtractedOnce i j) → ImageBecomes j (one_gone h.selector) (IsInlined j (one_gone h.selector)) (IsStored j (one_gone h.selector)) i
extracted-image i j h = record {
  classes = ap (λ (x : ImageOf Name). x.classes) h.after;
  methods =
      subst (λ ms. MethodsBecome j (one_gone h.selector) (IsInlined j (one_gone h.selector)) (IsStored j (one_gone h.selector)) ms i.methods) (sym (ap (λ (x : ImageOf Name). x.methods) h.after))
      (subst (λ ms. MethodsBecome j (one_gone h.selector) (IsInlined j (one_gone h.selector)) (IsStored j (one_gone h.selector)) (h.earlier ++ changed ∷ (h.between ++ h.new ∷ h.later)) ms) (sym h.methods)
      (kept-then j h.selector (IsInlined j (one_gone h.selector)) (IsStored j (one_gone h.selector)) h.earlier (changed ∷ (h.between ++ h.new ∷ h.later)) (h.method ∷ (h.between ++ h.later)) h.sent_earlier
      (method_next one
      (kept-then j h.selector (IsInlined j (one_gone h.selector)) (IsStored j (one_gone h.selector)) h.between (h.new ∷ h.later) h.later h.sent_between
      (method_gone (ap (λ s. text_eq s h.selector) h.new_selector ∙ text_eq-refl h.selector) (all-kept j h.selector (IsInlined j (one_gone h.selector)) (IsStored j (one_gone h.selector)) h.later h.sent_later))))));
  doits =
      subst (λ ds. DoItsStay j (one_gone h.selector) (IsInlined j (one_gone h.selector)) (IsStored j (one_gone h.selector)) ds i.doits) (sym (ap (λ (x : ImageOf Name). x.doits) h.after))
      (doits-kept j h.selector (IsInlined j (one_gone h.selector)) (IsStored j (one_gone h.selector)) i.doits h.sent_by_doits);
}
  where
    changed : EntryOf Name
    changed = record h.method { source = h.source; tree = method_replaced h.method.tree h.path (call_of h.selector h.names) }

    outermost : List Declared
    outermost = opened h.method.tree.arguments h.method.tree.body.temporaries []

    around : List Declared
    around = declared_among (opened h.method.tree.arguments h.method.tree.body.temporaries []) h.method.tree.body.statements h.path

    filling_of : List Name → Filling
    filling_of xs = record { arguments = xs; passed = themselves h.names; before = λ n. means_outside text_words j h.new.class h.new.meta n; after = λ n. means_outside text_words j h.method.class h.method.meta n; round = around }

    itself : Becomes (filling (filling_of h.names) true (λ s. text_eq s h.selector)) (opened h.names [] []) around h.part h.part
    itself =
        subst (λ u. Becomes (filling (filling_of h.names) true (λ s. text_eq s h.selector)) (opened h.names [] []) around h.part u) (tree-itself h.names [] h.part)
        (tree-fills (filling_of h.names) true (λ s. text_eq s h.selector) h.actuals h.plain h.count [] h.part h.may)

    inlined : IsInlined j (one_gone h.selector) changed (Some (h.class, h.meta)) around (call_of h.selector h.names) h.part
    inlined = record {
      class = h.class;
      meta = h.meta;
      here = refl;
      selector = h.selector;
      passed = themselves h.names;
      sends = refl;
      message = h.message;
      target = h.new;
      found = h.target;
      primitive = h.new_primitive;
      temporaries = h.new_temporaries;
      note = h.note;
      answer = h.part;
      answers = h.new_statements;
      supers = true;
      above = λ e. (h.new_class, h.new_meta);
      no_super = h.no_super;
      actuals = h.actuals;
      plain = h.plain;
      count = ap length h.new_arguments ∙ h.count;
      filled = subst (λ xs. Becomes (filling (filling_of xs) true (λ s. text_eq s h.selector)) (opened xs [] []) around h.part h.part) (sym h.new_arguments) itself;
    }

    one : MethodBecomes j (one_gone h.selector) (IsInlined j (one_gone h.selector)) (IsStored j (one_gone h.selector)) changed h.method
    one = record {
      class = refl;
      meta = refl;
      selector = refl;
      primitive = refl;
      arguments = refl;
      temporaries = refl;
      place = Some (h.class, h.meta);
      opens = record { class = h.opens.class; meta = h.opens.meta; user = h.opens.user };
      statements =
          subst (λ ss. BecomeLines (parts_stored (IsInlined j (one_gone h.selector) changed (Some (h.class, h.meta))) (IsStored j (one_gone h.selector) changed (Some (h.class, h.meta))) (λ s. text_eq s h.selector)) outermost outermost (statements_replaced h.method.tree.body.statements h.path (call_of h.selector h.names)) ss)
          (part-again h.method h.path h.part h.found)
          (statements-become (IsInlined j (one_gone h.selector) changed (Some (h.class, h.meta))) (IsStored j (one_gone h.selector) changed (Some (h.class, h.meta))) (λ s. text_eq s h.selector) outermost h.method.tree.body.statements h.path (call_of h.selector h.names) h.part h.sent_there h.still inlined);
    }
