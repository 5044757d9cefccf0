-- Images whose runs are mapped are matched by a renaming.
use Rattle.std.proofs.Common.{◌≡◌, ℕ, suc, ◌≤◌, List, [], ◌∷◌, refl, sym, ap, ◌∙◌, arith}
use Rattle.std.specs.Prelude.{Bool, map, get_or, drop}
use Rattle.image_model.specs.Image.{ImageOf}
use Rattle.run_model.specs.Values.{Name, Atom, nil_atom, true_atom, false_atom, int_atom, char_atom, string_atom, symbol_atom, class_atom, object_atom, array_atom, block_atom, transcript_atom, View, one, items, Event, shown, printed, RunError, does_not_understand, cannot_return, non_boolean, undeclared_name, not_assignable, unsupported, reflective, overflow, divide_by_zero, bad_index, bad_argument, wrong_arity, too_long, user_error, Outcome, done, failed, spent}
use Rattle.run_model.specs.Runs.{RunOf, run}
use Rattle.run_model.specs.Renamings.{Renaming, class_image, selector_image, renamed_atom, renamed_view, renamed_event, renamed_events, renamed_error, renamed_outcome}
use Rattle.mapped_model.specs.RenamedRuns.{RunsAsRenamed}
use Rattle.run_model.proofs.MatchedLemmas.{matched-renamed}
use Rattle.resolved_model.specs.ResolvedImages.{resolved_image}
use Rattle.resolved_model.specs.ResolvedRuns.{resolved_run}
use Rattle.resolved_model.proofs.RunLemmas.{run-resolved}
use Rattle.mapped_model.specs.NameMaps.{NameMaps, IsOneToOne, IsSameInAllClasses, KeepsWords}
use Rattle.mapped_model.specs.MappedImages.{mapped_image}
use Rattle.mapped_model.specs.MappedRuns.{mapped_atom, mapped_view, mapped_event, mapped_error, mapped_outcome, mapped_run}
use Rattle.mapped_model.specs.NamesInUse.{NamesInUse, IsOneToOneOn, IsOneToOneAcross, HasWords, HasInstance, HasClassSide, UsesOnly, AreInherited}
use Rattle.mapped_model.proofs.Homes.{IsSuited}
use Rattle.mapped_model.proofs.Suited.{AnyOf, AnyOn, alike-suited, inherited-suited}
use Rattle.mapped_model.proofs.RunsMapped.{run-after}
use Rattle.mapped_model.proofs.Agreeing.{image-in, inherited-in}
use Rattle.mapped_model.proofs.Widened.{enough, widened, widened-single, widened-words, widened-on, widened-agrees, widened_alike, alike-words, alike-same, alike-on, alike-single}

-- the runs of an image whose resolved names are mapped, where what is found suits
pub run-mapped : (f : NameMaps) (Instance : Name → Name → Type 0) (ClassSide : Name → Bool → Name → Type 0) (i j : ImageOf Name) (n : ℕ) → IsOneToOne f → KeepsWords f → IsSuited f Instance ClassSide (resolved_image i) → resolved_image j ≡ mapped_image f (resolved_image i) → run j n ≡ mapped_run f (run i n)
run-mapped f Instance ClassSide i j n single keeps suited e =
    sym (run-resolved j n) ∙ ap (λ x. resolved_run x n) e ∙ run-after f single keeps Instance ClassSide (resolved_image i) suited n ∙ ap (mapped_run f) (run-resolved i n)

-- the name in what is seen of a value
abbrev atom_name : Atom → Name
atom_name (class_atom c) = c
atom_name (object_atom c) = c
atom_name a = []

-- the one atom of a view
abbrev view_atom : View → Atom
view_atom (one a) = a
view_atom (items atoms) = nil_atom

-- the atoms of a view
abbrev view_items : View → List Atom
view_items (one a) = []
view_items (items atoms) = atoms

-- the view that is printed
abbrev event_view : Event → View
event_view (shown t) = items []
event_view (printed v) = v

-- the class in an error
abbrev error_class : RunError → Name
error_class (does_not_understand c meta s) = c
error_class (not_assignable n) = n
error_class e = []

-- the selector in an error
abbrev error_selector : RunError → Name
error_selector (does_not_understand c meta s) = s
error_selector e = []

-- the view of an outcome
abbrev outcome_view : Outcome → View
outcome_view (done v) = v
outcome_view (failed e) = items []
outcome_view spent = items []

-- the error of an outcome
abbrev outcome_error : Outcome → RunError
outcome_error (done v) = cannot_return
outcome_error (failed e) = e
outcome_error spent = cannot_return

-- two maps that agree on each item of a list, and a third that is as the first where they agree
agree-list : {X : Type 0} (f g h : X → X) → ((x : X) → f x ≡ g x → h x ≡ f x) → (xs : List X) → map f xs ≡ map g xs → map h xs ≡ map f xs
agree-list f g h p [] e = refl
agree-list f g h p (x ∷ xs) e = λ i. p x (ap (λ l. get_or l 0 (f x)) e) i ∷ agree-list f g h p xs (ap (λ l. drop 1 l) e) i

-- a renaming that is as two maps where they agree
module _ (r : Renaming) (f g : NameMaps) (classes : (c : Name) → f.class c ≡ g.class c → class_image r c ≡ f.class c) (selectors : (s : Name) → f.selector s ≡ g.selector s → selector_image r s ≡ f.selector s) where
  agree-atom : (a : Atom) → mapped_atom f a ≡ mapped_atom g a → renamed_atom r a ≡ mapped_atom f a
  agree-atom (class_atom c) e = ap class_atom (classes c (ap atom_name e))
  agree-atom (object_atom c) e = ap object_atom (classes c (ap atom_name e))
  agree-atom nil_atom e = refl
  agree-atom true_atom e = refl
  agree-atom false_atom e = refl
  agree-atom (int_atom z) e = refl
  agree-atom (char_atom b) e = refl
  agree-atom (string_atom t) e = refl
  agree-atom (symbol_atom t) e = refl
  agree-atom (array_atom n) e = refl
  agree-atom block_atom e = refl
  agree-atom transcript_atom e = refl

  agree-view : (v : View) → mapped_view f v ≡ mapped_view g v → renamed_view r v ≡ mapped_view f v
  agree-view (one a) e = ap one (agree-atom a (ap view_atom e))
  agree-view (items atoms) e = ap items (agree-list (mapped_atom f) (mapped_atom g) (renamed_atom r) agree-atom atoms (ap view_items e))

  agree-event : (x : Event) → mapped_event f x ≡ mapped_event g x → renamed_event r x ≡ mapped_event f x
  agree-event (shown t) e = refl
  agree-event (printed v) e = ap printed (agree-view v (ap event_view e))

  agree-error : (x : RunError) → mapped_error f x ≡ mapped_error g x → renamed_error r x ≡ mapped_error f x
  agree-error (does_not_understand c meta s) e = λ i. does_not_understand (classes c (ap error_class e) i) meta (selectors s (ap error_selector e) i)
  agree-error (not_assignable n) e = ap not_assignable (classes n (ap error_class e))
  agree-error cannot_return e = refl
  agree-error non_boolean e = refl
  agree-error (undeclared_name n) e = refl
  agree-error unsupported e = refl
  agree-error reflective e = refl
  agree-error overflow e = refl
  agree-error divide_by_zero e = refl
  agree-error bad_index e = refl
  agree-error (bad_argument n) e = refl
  agree-error (wrong_arity n) e = refl
  agree-error too_long e = refl
  agree-error (user_error t) e = refl

  agree-outcome : (o : Outcome) → mapped_outcome f o ≡ mapped_outcome g o → renamed_outcome r o ≡ mapped_outcome f o
  agree-outcome (done v) e = ap done (agree-view v (ap outcome_view e))
  agree-outcome (failed x) e = ap failed (agree-error x (ap outcome_error e))
  agree-outcome spent e = refl

  -- a run that both map alike is the renamed one
  agree-run : (x y : RunOf) → y ≡ mapped_run f x → y ≡ mapped_run g x → (y.events ≡ renamed_events r x.events) × (y.outcome ≡ renamed_outcome r x.outcome) × (y.ticks ≡ x.ticks)
  agree-run x y p q =
      let both : mapped_run f x ≡ mapped_run g x = sym p ∙ q in
      (ap (λ (z : RunOf). z.events) p ∙ sym (agree-list_events x.events (ap (λ (z : RunOf). z.events) both)), ap (λ (z : RunOf). z.outcome) p ∙ sym (agree-outcome x.outcome (ap (λ (z : RunOf). z.outcome) both)), ap (λ (z : RunOf). z.ticks) p)
    where
      agree-list_events : (es : List Event) → map (mapped_event f) es ≡ map (mapped_event g) es → renamed_events r es ≡ map (mapped_event f) es
      agree-list_events es e = agree-list (mapped_event f) (mapped_event g) (renamed_event r) agree-event es e

-- an image runs as another one does, where its runs are the renamed ones
runs-as-renamed : (i j : ImageOf Name) (r : Renaming) → ((n : ℕ) → ((run j n).events ≡ renamed_events r (run i n).events) × ((run j n).outcome ≡ renamed_outcome r (run i n).outcome) × ((run j n).ticks ≡ (run i n).ticks)) → RunsAsRenamed i j r
runs-as-renamed i j r h = record {
  events = λ n. (h n).0;
  outcome = λ n. (h n).1;
  ticks = λ n. (h n).2;
  matched = matched-renamed i j r (λ n. ((h n).0, (h n).1));
}

-- an image is matched by one whose resolved names are its own, mapped one to one on those in use
pub matched-mapped : (r : Renaming) (f : NameMaps) (u : NamesInUse) (i j : ImageOf Name) → ((c : Name) → f.class c ≡ class_image r c) → ((s : Name) → f.selector s ≡ selector_image r s) → IsOneToOneOn u f → HasWords u → KeepsWords f → UsesOnly u (resolved_image i) → AreInherited u f (resolved_image i) → resolved_image j ≡ mapped_image f (resolved_image i) → RunsAsRenamed i j r
matched-mapped r f u i j classes selectors single has keeps uses inherited e =
    let a = enough u f in
    let after : (n : ℕ) → enough u f ≤ n → (k : ℕ) → run j k ≡ mapped_run (widened u f n) (run i k) =
    λ n le k. run-mapped (widened u f n) (HasInstance u) (HasClassSide u) i j k (widened-single u f single n le) (widened-words u f has keeps n)
    (inherited-suited u (widened u f n) (resolved_image i) uses (inherited-in u f (widened u f n) (widened-on u f n) (resolved_image i).classes inherited)) (e ∙ sym (image-in u f (widened u f n) (widened-on u f n) (resolved_image i) uses)) in
    runs-as-renamed i j r
    (λ k. agree-run r (widened u f a) (widened u f (suc a))
    (λ c q. sym (classes c) ∙ sym (widened-agrees u.classes f.class a c q)) (λ s q. sym (selectors s) ∙ sym (widened-agrees u.selectors f.selector a s q))
    (run i k) (run j k) (after a (omega arith) k) (after (suc a) (omega arith) k))

-- the same where variables are called the same in all classes
pub matched-alike : (r : Renaming) (f : NameMaps) (u : NamesInUse) (i j : ImageOf Name) → ((c : Name) → f.class c ≡ class_image r c) → ((s : Name) → f.selector s ≡ selector_image r s) → IsOneToOneOn u f → IsOneToOneAcross u f → HasWords u → KeepsWords f → IsSameInAllClasses f → UsesOnly u (resolved_image i) → resolved_image j ≡ mapped_image f (resolved_image i) → RunsAsRenamed i j r
matched-alike r f u i j classes selectors single across has keeps alike uses e =
    let a = enough u f in
    let after : (n : ℕ) → enough u f ≤ n → (k : ℕ) → run j k ≡ mapped_run (widened_alike u f n) (run i k) =
    λ n le k. run-mapped (widened_alike u f n) AnyOf AnyOn i j k (alike-single u f alike single across n le) (alike-words u f has keeps n)
    (alike-suited (widened_alike u f n) (alike-same u f n) (resolved_image i)) (e ∙ sym (image-in u f (widened_alike u f n) (alike-on u f alike n) (resolved_image i) uses)) in
    runs-as-renamed i j r
    (λ k. agree-run r (widened_alike u f a) (widened_alike u f (suc a))
    (λ c q. sym (classes c) ∙ sym (widened-agrees u.classes f.class a c q)) (λ s q. sym (selectors s) ∙ sym (widened-agrees u.selectors f.selector a s q))
    (run i k) (run j k) (after a (omega arith) k) (after (suc a) (omega arith) k))
