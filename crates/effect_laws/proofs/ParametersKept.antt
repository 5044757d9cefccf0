-- Messages of a selector that pass other arguments, and its methods that take them, keep an image valid.
use Rattle.std.proofs.Common.{◌≡◌, ◌⊎◌, inl, inr, Bool, true, false, List, [], ◌++◌, map, Option, refl, sym, ap, subst, ◌∙◌, arith}
use Rattle.std.specs.Prelude.{◌||◌, if◌then◌else◌}
use Rattle.std.specs.List.{list_any}
use Rattle.std.proofs.lemmas.Simd.{map-map}
use Rattle.rb_base.specs.Names.{text_eq}
use Rattle.token_model.specs.declared.kind.Dialect.TheVariants.{Second}
use Rattle.tree_model.specs.Tree.{TreesOf, Notes, StatementsOf, no_statements, more_statements, SequenceOf, MethodOf}
use Rattle.tree_model.specs.Nodes.{nodes}
use Rattle.tree_model.specs.Normal.{leading_of}
use Rattle.text_model.specs.Literals.{is_selector}
use Rattle.text_model.specs.Whole.{canonical_method, canonical_doit}
use Rattle.image_model.specs.Image.{EntryOf, DoItOf, ImageOf}
use Rattle.image_model.specs.Uses.{is_sender}
use Rattle.image_model.specs.Valid.{class_names, signature, IsUserMethod, IsUserDoIt}
use Rattle.reread_law.specs.Declarations.{repeats, known_names, assigns_fixed_statements}
use Rattle.reread_law.specs.WholeTrees.{WellFormedSequence, WellFormedDoIt, WellFormedMethod}
use Rattle.reread_law.proofs.Starting.{well_formed_doit}
use Rattle.file_model.specs.Filing.{Text}
use Rattle.file_model.specs.Fileable.{reading_of}
use Rattle.file_laws.specs.Fronts.{method_of_kernel}
use Rattle.file_laws.proofs.Moves.{text_equal}
use Rattle.rename_model.specs.Conditions.{speaks_of}
use Rattle.rename_model.specs.ClassRenamed.{canonical}
use Rattle.command_model.specs.Walk.{rebuilt_statements}
use Rattle.command_model.specs.Parameters.{sequence_passed, tree_passed, method_passed, doit_passed, passing_changed}
use Rattle.effect_laws.proofs.Items.{In, Once, map_in, once_map}
use Rattle.effect_laws.proofs.Fronts.{kernel_in, behind_map}
use Rattle.effect_laws.proofs.Sound.{HasHome, AreSoundMethods, IsSound}
use Rattle.effect_laws.proofs.Tests.{differ}
use Rattle.effect_laws.proofs.Arities.{pattern_from}
use Rattle.effect_laws.proofs.WholeTrees.{IsWritten, primitive_kept, well_of, written_method, written_doit}
use Rattle.effect_laws.proofs.MethodCommands.{once_items, one_signed}
use Rattle.effect_laws.proofs.ArgumentsPassed.{PassesWell, making, chosen, passed-height, passed-twice, passed-assigned}
use Rattle.effect_laws.proofs.ArgumentsWell.{passed-well}
use Rattle.effect_laws.proofs.ArgumentsTaken.{TakesWell}

module _ (s t : Text) (passed : TreesOf Text → TreesOf Text) (taken : List Text → List Text) where
  -- a method and a do-it, whether they speak of the selector or not
  abbrev pub passed_method : EntryOf Text → EntryOf Text
  passed_method m = method_passed text_eq canonical s t passed taken m

  abbrev pub passed_doit : DoItOf Text → DoItOf Text
  passed_doit e = doit_passed text_eq canonical s t passed taken e

  abbrev anew : EntryOf Text → EntryOf Text
  anew m = let tree = tree_passed text_eq canonical s t passed taken m.tree in record m { tree = tree; source = canonical_method tree }

  abbrev pub doit_anew : DoItOf Text → DoItOf Text
  doit_anew e = let body = sequence_passed text_eq canonical s t passed taken e.body in record { body = body; source = canonical_doit body }

  -- what a method is stays, but its tree and its source
  pub passed_kernel : (m : EntryOf Text) → (passed_method m).kernel ≡ m.kernel
  passed_kernel m = by (speaks_of text_eq s m)
    where
      by : (b : Bool) → (if b then anew m else m).kernel ≡ m.kernel
      by true = refl
      by false = refl

  passed_class : (m : EntryOf Text) → (passed_method m).class ≡ m.class
  passed_class m = by (speaks_of text_eq s m)
    where
      by : (b : Bool) → (if b then anew m else m).class ≡ m.class
      by true = refl
      by false = refl

  passed_side : (m : EntryOf Text) → (passed_method m).meta ≡ m.meta
  passed_side m = by (speaks_of text_eq s m)
    where
      by : (b : Bool) → (if b then anew m else m).meta ≡ m.meta
      by true = refl
      by false = refl

  -- its selector is the new one, where it was the old one
  passed_selector : (m : EntryOf Text) → ((s ≡ m.tree.selector) × ((passed_method m).tree.selector ≡ t)) ⊎ ((s ≡ m.tree.selector → ⊥) × ((passed_method m).tree.selector ≡ m.tree.selector))
  passed_selector m = by (text_eq s m.tree.selector) refl
    where
      sends : Bool
      sends = list_any (λ e. is_sender text_eq s e.1) (nodes m.tree.body)

      new : (b : Bool) → text_eq s m.tree.selector ≡ b → (anew m).tree.selector ≡ (if b then t else m.tree.selector)
      new true q = ap (λ c. (if c then record m.tree { selector = t; arguments = taken m.tree.arguments; body = sequence_passed text_eq canonical s t passed taken m.tree.body } else record m.tree { body = sequence_passed text_eq canonical s t passed taken m.tree.body }).selector) q
      new false q = ap (λ c. (if c then record m.tree { selector = t; arguments = taken m.tree.arguments; body = sequence_passed text_eq canonical s t passed taken m.tree.body } else record m.tree { body = sequence_passed text_eq canonical s t passed taken m.tree.body }).selector) q

      either : (b : Bool) → text_eq s m.tree.selector ≡ false → (if b then anew m else m).tree.selector ≡ m.tree.selector
      either true q = new false q
      either false q = refl

      by : (b : Bool) → text_eq s m.tree.selector ≡ b → ((s ≡ m.tree.selector) × ((passed_method m).tree.selector ≡ t)) ⊎ ((s ≡ m.tree.selector → ⊥) × ((passed_method m).tree.selector ≡ m.tree.selector))
      by true q = inl (text_equal s m.tree.selector q, ap (λ b. (if b || sends then anew m else m).tree.selector) q ∙ new true q)
      by false q = inr (differ s m.tree.selector q, either (speaks_of text_eq s m) q)

  -- it is written anew, or stays
  pub passed_written : (m : EntryOf Text) → IsWritten canonical_method m.source (passed_method m).source m.tree (passed_method m).tree
  passed_written m = by (speaks_of text_eq s m)
    where
      by : (b : Bool) → IsWritten canonical_method m.source (if b then anew m else m).source m.tree (if b then anew m else m).tree
      by true = inl refl
      by false = inr (refl, refl)

  pub passed_doit_written : (e : DoItOf Text) → IsWritten canonical_doit e.source (passed_doit e).source e.body (passed_doit e).body
  passed_doit_written e = by (list_any (λ x. is_sender text_eq s x.1) (nodes e.body))
    where
      by : (b : Bool) → IsWritten canonical_doit e.source (if b then doit_anew e else e).source e.body (if b then doit_anew e else e).body
      by true = inl refl
      by false = inr (refl, refl)

module _ (s t : Text) (passed : TreesOf Text → TreesOf Text) (taken : List Text → List Text) (good : PassesWell s t passed) (selector : is_selector t ≡ true) where
  -- code in which messages pass other arguments, with other names round it
  sequence_well : (ps qs : List Text) (b : SequenceOf Text) → WellFormedSequence ps b → repeats [] (qs ++ b.temporaries) ≡ false → assigns_fixed_statements (known_names qs b.temporaries) b.statements ≡ false
      → WellFormedSequence qs (sequence_passed text_eq canonical s t passed taken b)
  sequence_well ps qs b w once assigned =
      let low = passed-height s t passed taken good b.statements in
      let high = w.height in
      record {
        words = w.words;
        statements = passed-well s t passed taken good selector b.statements w.statements;
        notes = w.notes;
        height = omega (arith, low, high);
        once = once;
        once_inside = passed-twice s t passed taken good b.statements w.once_inside;
        assigned = passed-assigned s t passed taken good (known_names qs b.temporaries) b.statements assigned;
      }

  leading_passed : (ss : StatementsOf Text) (tail : Notes) → leading_of (rebuilt_statements (making s t passed taken) 0 ss) tail ≡ leading_of ss tail
  leading_passed no_statements tail = refl
  leading_passed (more_statements c r ss) tail = refl

  -- a method
  tree_well : (m : MethodOf Text) → WellFormedMethod false m → (s ≡ m.selector → TakesWell t taken m) → WellFormedMethod false (tree_passed text_eq canonical s t passed taken m)
  tree_well m w takes =
      let body = sequence_passed text_eq canonical s t passed taken m.body in
      let lines = rebuilt_statements (making s t passed taken) 0 m.body.statements in
      chosen {X = MethodOf Text} s (WellFormedMethod false) m.selector (record m { selector = t; arguments = taken m.arguments; body = body }) (record m { body = body })
      (λ q. (let k = takes q in record {
        pattern = pattern_from t (taken m.arguments) selector k.number k.words;
        head = w.head;
        body = sequence_well m.arguments (taken m.arguments) m.body w.body k.once k.assigned;
        primitive = primitive_kept m.primitive m.body.temporaries m.body.statements lines w.primitive;
        normal = λ none. leading_passed m.body.statements m.body.tail ∙ w.normal none;
      }))
      (record {
        pattern = w.pattern;
        head = w.head;
        body = sequence_well m.arguments m.arguments m.body w.body w.body.once w.body.assigned;
        primitive = primitive_kept m.primitive m.body.temporaries m.body.statements lines w.primitive;
        normal = λ none. leading_passed m.body.statements m.body.tail ∙ w.normal none;
      })

  method_well : (m : EntryOf Text) → WellFormedMethod false m.tree → (s ≡ m.tree.selector → TakesWell t taken m.tree) → WellFormedMethod false (passed_method s t passed taken m).tree
  method_well m w takes = by (speaks_of text_eq s m)
    where
      by : (b : Bool) → WellFormedMethod false (if b then anew s t passed taken m else m).tree
      by true = tree_well m.tree w takes
      by false = w

  doit_well : (e : DoItOf Text) → WellFormedDoIt e.body → WellFormedDoIt (passed_doit s t passed taken e).body
  doit_well e w = by (list_any (λ x. is_sender text_eq s x.1) (nodes e.body))
    where
      by : (b : Bool) → WellFormedDoIt (if b then doit_anew s t passed taken e else e).body
      by true = sequence_well [] [] e.body w w.once w.assigned
      by false = w

  module _ (kernel i : ImageOf Text) (sound : IsSound kernel i)
      (foreign : (m : EntryOf Text) → In i.methods m → m.kernel ≡ true → speaks_of text_eq s m ≡ false)
      (fresh : (m : EntryOf Text) → In i.methods m → t ≡ m.tree.selector → ⊥)
      (takes : (m : EntryOf Text) → In i.methods m → m.kernel ≡ false → s ≡ m.tree.selector → WellFormedMethod false m.tree → TakesWell t taken m.tree) where
    abbrev g : EntryOf Text → EntryOf Text
    g m = passed_method s t passed taken m

    abbrev d : DoItOf Text → DoItOf Text
    d e = passed_doit s t passed taken e

    spelled : (m : EntryOf Text) → In i.methods m → m.kernel ≡ false → IsUserMethod (reading_of Second kernel) (g m)
    spelled m k q =
        let u = sound.methods.spelled m k q in
        let w = well_of kernel m u in
        written_method kernel m (g m) u (method_well m w (λ e. takes m k q e w)) (passed_written s t passed taken m)

    fixed : (m : EntryOf Text) → In kernel.methods m → g m ≡ m
    fixed m k =
        let none = foreign m (kernel_in method_of_kernel kernel.methods i.methods sound.methods.behind m k) (sound.methods.behind.of_kernel m k) in
        ap (λ b. if b then anew s t passed taken m else m) none

    signed : (m k : EntryOf Text) → In i.methods m → In i.methods k → signature (g m) ≡ signature (g k) → m ≡ k
    signed m k a b e =
        one_signed kernel i sound m k a b (λ j. (
          (sym (passed_class s t passed taken m) ∙ ap (λ (u : Option Text × Bool × Text). u.0) e ∙ passed_class s t passed taken k) j,
          (sym (passed_side s t passed taken m) ∙ ap (λ (u : Option Text × Bool × Text). u.1) e ∙ passed_side s t passed taken k) j,
          one (passed_selector s t passed taken m) (passed_selector s t passed taken k) j,
        ))
      where
        selectors : (g m).tree.selector ≡ (g k).tree.selector
        selectors = ap (λ (u : Option Text × Bool × Text). u.2) e

        one : ((s ≡ m.tree.selector) × ((g m).tree.selector ≡ t)) ⊎ ((s ≡ m.tree.selector → ⊥) × ((g m).tree.selector ≡ m.tree.selector))
            → ((s ≡ k.tree.selector) × ((g k).tree.selector ≡ t)) ⊎ ((s ≡ k.tree.selector → ⊥) × ((g k).tree.selector ≡ k.tree.selector)) → m.tree.selector ≡ k.tree.selector
        one (inl p) (inl q) = sym p.0 ∙ q.0
        one (inl p) (inr q) = absurd (fresh k b (sym p.1 ∙ selectors ∙ q.1))
        one (inr p) (inl q) = absurd (fresh m a (sym q.1 ∙ sym selectors ∙ p.1))
        one (inr p) (inr q) = sym p.1 ∙ selectors ∙ q.1

    methods_sound : AreSoundMethods kernel (class_names i.classes) (map g i.methods)
    methods_sound = record {
      once = subst Once (sym (map-map signature g i.methods)) (once_map (λ m. signature (g m)) i.methods (once_items signature i.methods sound.methods.once) signed);
      homes = λ m k. (let r = map_in g i.methods m k in subst (HasHome (class_names i.classes)) r.2 (home r.0 (sound.methods.homes r.0 r.1)));
      spelled = λ m k q. (let r = map_in g i.methods m k in
          subst (IsUserMethod (reading_of Second kernel)) r.2 (spelled r.0 r.1 (sym (passed_kernel s t passed taken r.0) ∙ ap (λ (x : EntryOf Text). x.kernel) r.2 ∙ q)));
      behind = behind_map method_of_kernel kernel.methods i.methods sound.methods.behind g fixed (λ m k q. passed_kernel s t passed taken m ∙ q);
    }
      where
        home : (m : EntryOf Text) → HasHome (class_names i.classes) m → HasHome (class_names i.classes) (g m)
        home m r = (r.0, passed_class s t passed taken m ∙ r.1, r.2)

    doit_spelled : (e : DoItOf Text) → In i.doits e → IsUserDoIt (reading_of Second kernel) (d e)
    doit_spelled e k = let u = sound.doits e k in written_doit kernel e (d e) u (doit_well e (well_formed_doit e.source e.body u.spells)) (passed_doit_written s t passed taken e)

    pub passing_sound : IsSound kernel (passing_changed text_eq canonical s t passed taken i)
    passing_sound = record {
      classes = sound.classes;
      methods = methods_sound;
      doits = λ e k. (let r = map_in d i.doits e k in subst (IsUserDoIt (reading_of Second kernel)) r.2 (doit_spelled r.0 r.1));
    }
