-- An image in which a variable is reached by messages becomes the image before, once the accessors are inlined.
use Rattle.std.proofs.Common.{◌≡◌, List, [], ◌∷◌, ◌++◌, Some, None, refl, sym, ap, ◌∙◌, subst}
use Rattle.std.specs.Prelude.{Bool, true, false, ◌||◌, codes}
use Rattle.std.specs.List.{AllByRecursion}
use Rattle.std.proofs.lemmas.Bool.{false≢true}
use Rattle.rb_base.specs.Names.{text_eq}
use Rattle.rb_base.proofs.NamesLemmas.{text_eq-refl}
use Rattle.tree_model.specs.Tree.{TreeOf, var, send, no_trees}
use Rattle.scope_model.specs.SpecialNames.{is_pseudo_variable, control_form}
use Rattle.image_model.specs.Image.{EntryOf, DoItOf, ImageOf}
use Rattle.image_model.specs.Words.{text_words}
use Rattle.image_model.specs.Means.{means_outside}
use Rattle.run_model.specs.Values.{Name}
use Rattle.resolved_model.specs.ResolvedImages.{resolved_entry, resolved_image}
use Rattle.resolved_model.specs.Environments.{Declared, opened, kind_in}
use Rattle.unfolded_calls.specs.Unfolding.{IsBelow, IsTarget}
use Rattle.unfolded_calls.proofs.Running.{none-some, below-on}
use Rattle.unfolded_places.specs.Becoming.{at_part}
use Rattle.unfolded_places.specs.ImagesChanged.{PartsOf, StoresOf, MethodBecomes, MethodsBecome, methods_end, method_next, method_gone, DoItsStay, doits_end, doit_next, ImageBecomes}
use Rattle.unfolded_places.specs.Inlining.{plain_none, filled_outer, IsInlined, IsStored}
use Rattle.unfolded_places.proofs.Unchanged.{lines-stay}
use Rattle.unfolded_places.proofs.AccessedBecomes.{lines-accessed}
use Rattle.command_model.specs.Accessors.{getter, setter_of, accessing}
use Rattle.command_model.specs.MethodEffects.{new_method}
use Rattle.moved_code_laws.specs.VariableAbstracted.{accessors_gone, SendsNeither, MethodAccessed, stays, accessed, MethodsAccessed, accessed_none, accessed_more, IsVariableAbstracted}
use Rattle.moved_code_laws.proofs.PlainThere.{no-control}

module _ (i j : ImageOf Name) (h : IsVariableAbstracted i j) where
  abbrev x : Name
  x = h.variable

  abbrev reader : EntryOf Name
  reader = new_method h.class false accessing h.getter_text (getter h.variable)

  abbrev setting : EntryOf Name
  setting = new_method h.class false accessing h.setter_text (setter_of h.variable h.writer h.given)

  abbrev after : ImageOf Name
  after = record i { methods = (h.methods ++ reader ∷ []) ++ setting ∷ [] }

  abbrev parts : PartsOf
  parts = IsInlined after (accessors_gone h.variable h.writer)

  abbrev stores : StoresOf
  stores = IsStored after (accessors_gone h.variable h.writer)

  reads : IsTarget (resolved_image after) (accessors_gone h.variable h.writer) h.class false h.variable (resolved_entry after reader)
  reads = subst (λ k. IsTarget (resolved_image k) (accessors_gone h.variable h.writer) h.class false h.variable (resolved_entry k reader)) h.after h.reads

  writes : IsTarget (resolved_image after) (accessors_gone h.variable h.writer) h.class false h.writer (resolved_entry after setting)
  writes = subst (λ k. IsTarget (resolved_image k) (accessors_gone h.variable h.writer) h.class false h.writer (resolved_entry k setting)) h.after h.writes

  no-super : var h.variable ≡ var (codes "super") → ⊥
  unfolding is_pseudo_variable
  no-super e = false≢true (sym h.plain_variable ∙ ap is_pseudo_variable (ap name-of e))
    where
      name-of : TreeOf Name → Name
      name-of (var n) = n
      name-of t = []

  -- in a class at or below that of the variable, where its name means the same
  module _ (m : EntryOf Name) (d : Name) (class : m.class ≡ Some d) (side : m.meta ≡ false) (under : IsBelow (resolved_image i).classes d h.class) (same : means_outside text_words i (Some h.class) false h.variable ≡ means_outside text_words i m.class m.meta h.variable) where
    read-there : (A : List Declared) → kind_in A h.variable ≡ None → parts m (Some (d, false)) A (send (var (codes "self")) h.variable no_trees) (var h.variable)
    read-there A none = record {
      class = d;
      meta = false;
      here = refl;
      selector = h.variable;
      passed = no_trees;
      sends = refl;
      message = no-control (control_form h.variable) (var (codes "self")) no_trees (λ t e. none-some e);
      target = reader;
      found = λ k b. reads k (below-on b under);
      primitive = refl;
      temporaries = refl;
      note = [];
      answer = var h.variable;
      answers = refl;
      supers = false;
      above = λ e. absurd (false≢true e);
      no_super = no-super;
      actuals = [];
      plain = plain_none;
      count = refl;
      filled = at_part (filled_outer [] h.variable h.plain_variable (record { inside = refl; formal = refl; there = none; same = same }));
    }

    write-there : (A : List Declared) → kind_in A h.variable ≡ None → stores m (Some (d, false)) A h.writer h.variable
    write-there A none = record {
      class = d;
      meta = false;
      here = refl;
      target = setting;
      found = λ k b. writes k (below-on b under);
      primitive = refl;
      argument = h.given;
      arguments = refl;
      plain_argument = h.plain_given;
      temporaries = refl;
      note = [];
      statements = refl;
      plain_variable = h.plain_variable;
      other = h.other;
      there = none;
      same = same;
    }

  -- a method
  method-back : (m m' : EntryOf Name) → MethodAccessed i h.class h.variable h.writer m m' → MethodBecomes after (accessors_gone h.variable h.writer) parts stores m' m
  method-back _ _ (stays m k) = record {
    class = refl;
    meta = refl;
    selector = refl;
    primitive = refl;
    arguments = refl;
    temporaries = refl;
    place = None;
    opens = tt;
    statements = lines-stay (parts m None) (stores m None) (λ s. text_eq s h.variable || text_eq s h.writer) (opened m.tree.arguments m.tree.body.temporaries []) m.tree.body.statements k;
  }
  method-back _ m' (accessed m d source class side under same k) = record {
    class = refl;
    meta = refl;
    selector = refl;
    primitive = refl;
    arguments = refl;
    temporaries = refl;
    place = Some (d, false);
    opens = record { class = class; meta = side; user = λ b. h.user (below-on b under) };
    statements =
        lines-accessed after (accessors_gone h.variable h.writer) m' (Some (d, false)) h.variable h.variable h.writer (read-there m' d class side under same) (write-there m' d class side under same) h.message
        (opened m.tree.arguments m.tree.body.temporaries []) m.tree.body.statements k;
  }

  -- methods
  methods-back : (ms ms' : List (EntryOf Name)) → MethodsAccessed i h.class h.variable h.writer ms ms' → MethodsBecome after (accessors_gone h.variable h.writer) parts stores ((ms' ++ reader ∷ []) ++ setting ∷ []) ms
  methods-back _ _ accessed_none = method_gone (ap (λ b. b || text_eq h.variable h.writer) (text_eq-refl h.variable)) (method_gone (always (text_eq h.writer h.variable) (text_eq h.writer h.writer) (text_eq-refl h.writer)) methods_end)
    where
      always : (a b : Bool) → b ≡ true → (a || b) ≡ true
      always true b e = refl
      always false b e = e
  methods-back _ _ (accessed_more {m = m} {m' = m'} {ms = ms} {ms' = ms'} p rest) = method_next (method-back m m' p) (methods-back ms ms' rest)

  doits-back : (ds : List (DoItOf Name)) → AllByRecursion (λ (d : DoItOf Name). SendsNeither h.variable h.writer d.body.statements) ds → DoItsStay after (accessors_gone h.variable h.writer) parts stores ds ds
  doits-back [] a = doits_end
  doits-back (d ∷ ds) a = doit_next refl a.0 (doits-back ds a.1)

  after-becomes : ImageBecomes after (accessors_gone h.variable h.writer) parts stores i
  after-becomes = record { classes = refl; methods = methods-back i.methods h.methods h.changed; doits = doits-back i.doits h.doits }

-- the image after becomes the one before
pub accessed-becomes : (i j : ImageOf Name) → (h : IsVariableAbstracted i j) → ImageBecomes j (accessors_gone h.variable h.writer) (IsInlined j (accessors_gone h.variable h.writer)) (IsStored j (accessors_gone h.variable h.writer)) i
accessed-becomes i j h = subst (λ k. ImageBecomes k (accessors_gone h.variable h.writer) (IsInlined k (accessors_gone h.variable h.writer)) (IsStored k (accessors_gone h.variable h.writer)) i) (sym h.after) (after-becomes i j h)
