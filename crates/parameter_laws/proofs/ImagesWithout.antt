-- An image whose messages do not pass an argument, once its names are resolved.
use Rattle.std.proofs.Common.{◌≡◌, ℕ, zero, suc, ◌-◌, ◌<◌, List, [], ◌∷◌, length, Option, Some, None, refl, sym, ap, ◌∙◌, subst, arith}
use Rattle.std.specs.Prelude.{Bool, true, false, if◌then◌else◌, map, remove}
use Rattle.std.specs.List.{AllByRecursion}
use Rattle.rb_base.specs.Names.{text_eq}
use Rattle.tree_model.specs.Tree.{SequenceOf}
use Rattle.image_model.specs.Image.{EntryOf, DoItOf, ImageOf}
use Rattle.image_model.specs.Words.{text_words}
use Rattle.image_model.specs.Means.{MeaningOf, means_outside}
use Rattle.run_model.specs.Values.{Name}
use Rattle.run_model.specs.Runs.{doit_class}
use Rattle.resolved_model.specs.ResolvedTrees.{ResolvedCode}
use Rattle.resolved_model.specs.Resolving.{resolved_doit}
use Rattle.resolved_model.specs.ResolvedImages.{by_code, doing_of, resolved_entry, resolved_image}
use Rattle.rename_model.specs.ClassRenamed.{WritingOf}
use Rattle.argument_laws.specs.ArgumentGone.{code_without, gap_in, doing_without, method_without, image_without}
use Rattle.argument_laws.specs.PlainArguments.{IsAmongParameters, LinesMayLose, DoingMayLose, ImageMayLose}
use Rattle.resolved_model.specs.Environments.{opened, statements_in, code_in}
use Rattle.resolved_model.proofs.ResolvingLemmas.{method-resolved, doit-resolved}
use Rattle.parameter_laws.specs.ArgumentsChanged.{sequence_passing, method_after, doit_after, argument_dropped}
use Rattle.command_model.specs.Parameters.{without_nth}
use Rattle.parameter_laws.proofs.GapsInNames.{closes-none, argument-gone}
use Rattle.parameter_laws.proofs.AssignedCarried.{FreeLines}
use Rattle.parameter_laws.proofs.TreesWithout.{lines-gone}

-- one name fewer
fewer-names : (k : ℕ) (ns : List Name) → k < length ns → length (remove ns k) ≡ length ns - 1
fewer-names k [] h = absurd (omega arith)
fewer-names zero (n ∷ ns) h = omega arith
fewer-names (suc k) (n ∷ ns) h = let e = fewer-names k ns (omega arith) in omega (arith, e)

module _ (s : Name) (k : ℕ) where
  -- the gap, by whether a selector is the one
  abbrev gap_by : Bool → Option ℕ
  gap_by b = if b then Some k else None

  -- code with arguments, by whether it is that of a method of the selector
  code-gone : (g : Name → MeaningOf Name) (args : List Name) (body : SequenceOf Name) (b : Bool) → IsAmongParameters (gap_by b) (length args) →
      LinesMayLose s k (gap_by b) (statements_in g (opened args body.temporaries []) body.statements) → FreeLines (opened args body.temporaries []) body.statements →
      code_in g [] (if b then remove args k else args) (sequence_passing text_eq s (without_nth k) body) ≡ code_without s k (gap_by b) (code_in g [] args body)
  code-gone g args body true le h f = λ i. record {
    parameters = fewer-names k args le i;
    temporaries = length body.temporaries;
    statements = lines-gone g s k body.statements (Some k) (opened args body.temporaries []) (opened (remove args k) body.temporaries []) (argument-gone k args body.temporaries le) h f i;
  }
  code-gone g args body false le h f = λ i. record {
    parameters = length args;
    temporaries = length body.temporaries;
    statements = lines-gone g s k body.statements None (opened args body.temporaries []) (opened args body.temporaries []) (closes-none (opened args body.temporaries [])) h f i;
  }

  -- what is known of code
  abbrev CodeMayLose : Option ℕ → ResolvedCode → Type 0
  CodeMayLose gap c = IsAmongParameters gap c.parameters × LinesMayLose s k gap c.statements

  module _ (writing : WritingOf Name) (i : ImageOf Name) where
    -- the image after
    abbrev pub j : ImageOf Name
    j = argument_dropped text_eq writing s k i

    -- a method after
    abbrev after : EntryOf Name → EntryOf Name
    after m = method_after text_eq s (without_nth k) writing (λ ns. remove ns k) m

    -- what declares names in a method
    abbrev MethodFree : EntryOf Name → Type 0
    MethodFree m = FreeLines (opened m.tree.arguments m.tree.body.temporaries []) m.tree.body.statements

    -- and in a do-it
    abbrev DoItFree : DoItOf Name → Type 0
    DoItFree d = FreeLines (opened [] d.body.temporaries []) d.body.statements

    -- what a method does
    doing-gone : (m : EntryOf Name) → MethodFree m → (p : Option ℕ) → DoingMayLose s k m.tree.selector (doing_of i m p) → doing_of j (after m) p ≡ doing_without s k m.tree.selector (doing_of i m p)
    doing-gone m f (Some n) h = refl
    doing-gone m f None h =
        let g : Name → MeaningOf Name = λ n. means_outside text_words i m.class m.meta n in
        let may = subst (CodeMayLose (gap_in s k m.tree.selector)) (method-resolved i m) h in
        ap by_code
        (method-resolved j (after m)
        ∙ code-gone g m.tree.arguments m.tree.body (text_eq s m.tree.selector) may.0 may.1 f
        ∙ ap (code_without s k (gap_in s k m.tree.selector)) (sym (method-resolved i m)))

    -- methods
    methods-gone : (ms : List (EntryOf Name)) → AllByRecursion MethodFree ms → AllByRecursion (λ (m : _). DoingMayLose s k m.selector m.doing) (map (resolved_entry i) ms) →
        map (resolved_entry j) (map after ms) ≡ map (method_without s k) (map (resolved_entry i) ms)
    methods-gone [] f h = refl
    methods-gone (m ∷ ms) f h =
        λ n. record { class = m.class; meta = m.meta; selector = m.tree.selector; doing = doing-gone m f.0 m.tree.primitive h.0 n } ∷ methods-gone ms f.1 h.1 n

    -- a do-it
    doit-gone : (d : DoItOf Name) → DoItFree d → LinesMayLose s k None (resolved_doit i d).statements → resolved_doit j (doit_after text_eq s (without_nth k) writing (λ ns. remove ns k) d) ≡ code_without s k None (resolved_doit i d)
    doit-gone d f h =
        let g : Name → MeaningOf Name = λ n. means_outside text_words i (doit_class i) false n in
        doit-resolved j (doit_after text_eq s (without_nth k) writing (λ ns. remove ns k) d)
        ∙ code-gone g [] d.body false tt (subst (λ (c : ResolvedCode). LinesMayLose s k None c.statements) (doit-resolved i d) h) f
        ∙ ap (code_without s k None) (sym (doit-resolved i d))

    -- do-its
    doits-gone : (ds : List (DoItOf Name)) → AllByRecursion DoItFree ds → AllByRecursion (λ (c : ResolvedCode). LinesMayLose s k None c.statements) (map (resolved_doit i) ds) →
        map (resolved_doit j) (map (doit_after text_eq s (without_nth k) writing (λ ns. remove ns k)) ds) ≡ map (code_without s k None) (map (resolved_doit i) ds)
    doits-gone [] f h = refl
    doits-gone (d ∷ ds) f h = λ n. doit-gone d f.0 h.0 n ∷ doits-gone ds f.1 h.1 n

    -- the image
    pub image-gone : AllByRecursion MethodFree i.methods → AllByRecursion DoItFree i.doits → ImageMayLose s k (resolved_image i) → resolved_image j ≡ image_without s k (resolved_image i)
    image-gone f d h = λ n. record {
      classes = (resolved_image i).classes;
      methods = methods-gone i.methods f h.methods n;
      doits = doits-gone i.doits d h.doits n;
    }
