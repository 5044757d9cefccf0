-- What names mean at their places after a class has a new name.
use Rattle.std.proofs.Common.{◌≡◌, ℕ, List, refl, sym, ap, ◌∙◌}
use Rattle.std.specs.Prelude.{Bool, true, false, if◌then◌else◌}
use Rattle.std.proofs.lemmas.Bool.{false≢true}
use Rattle.rb_base.specs.Names.{text_eq}
use Rattle.rb_base.proofs.NamesLemmas.{text_eq-refl}
use Rattle.scope_model.specs.declared.local.Local.{Local}
use Rattle.scope_model.specs.declared.local.Local.TheVariants.{Argument, Temporary, NotLocal}
use Rattle.scope_model.specs.SpecialNames.{is_pseudo_variable}
use Rattle.scope_model.specs.Scope.{ScopeOf, scopes_round, local_by, local_in_scope}
use Rattle.image_model.specs.Means.{of_instance, of_class_side, of_class, MeaningOf, pseudo, argument, temporary, variable, a_class, transcript, undeclared, map_meaning, means_by}
use Rattle.image_model.specs.Uses.{is_that_class}
use Rattle.run_model.specs.Values.{Name}
use Rattle.run_model.proofs.Finite.{by_cases}
use Rattle.resolved_model.specs.ResolvedTrees.{of_named_class, to_fixed}
use Rattle.resolved_model.specs.Resolving.{place_at, reference_of, target_of}
use Rattle.mapped_model.specs.MappedImages.{mapped_reference, mapped_target}
use Rattle.rename_model.specs.Renamed.{NewName}
use Rattle.rename_laws.specs.BehindKernel.{is_fixed}
use Rattle.rename_laws.proofs.NewNames.{new, maps, Other, new-class, new-other}
use Rattle.rename_laws.proofs.OutsideAfter.{IsApart}
use Rattle.rename_laws.proofs.ScopesAfter.{renamed_scope, local-renamed, place-renamed}

-- what a name means where a path leads in a scope, behind which it means this
abbrev pub meaning_at : ScopeOf Name → (Name → MeaningOf Name) → List ℕ → Name → MeaningOf Name
meaning_at s outside path n = if is_pseudo_variable n then pseudo else means_by (local_in_scope text_eq is_pseudo_variable s path n) (outside n)

-- the same by what scopes say of it
abbrev pub by_local : Bool → Local → MeaningOf Name → MeaningOf Name
by_local p l g = if p then pseudo else means_by (if p then NotLocal else l) g

module _ (c d : Name) where
  -- anything but the class means the same after
  kept-by : (p : Bool) (l : Local) (g h : MeaningOf Name) → (is_that_class text_eq c g ≡ false → h ≡ map_meaning (new c d) g) → is_that_class text_eq c (by_local p l g) ≡ false → by_local p l h ≡ map_meaning (new c d) (by_local p l g)
  kept-by true l g h k e = refl
  kept-by false (Argument s) g h k e = refl
  kept-by false (Temporary s) g h k e = refl
  kept-by false NotLocal g h k e = k e

  -- and is apart from it
  apart-by : (n : Name) (p : Bool) (l : Local) (g : MeaningOf Name) → (is_that_class text_eq c g ≡ false → IsApart c n g) → is_that_class text_eq c (by_local p l g) ≡ false → IsApart c n (by_local p l g)
  apart-by n true l g k e = tt
  apart-by n false (Argument s) g k e = tt
  apart-by n false (Temporary s) g k e = tt
  apart-by n false NotLocal g k e = k e

  -- the class is meant behind all scopes
  class-by : (p : Bool) (l : Local) (g : MeaningOf Name) → is_that_class text_eq c (by_local p l g) ≡ true → (by_local p l g ≡ g) × (is_that_class text_eq c g ≡ true)
  class-by true l g e = absurd (false≢true e)
  class-by false (Argument s) g e = absurd (false≢true e)
  class-by false (Temporary s) g e = absurd (false≢true e)
  class-by false NotLocal g e = (refl, e)

  -- what is read, and what is assigned, under another meaning
  reference-kept : (owner : Name) (g : MeaningOf Name) (k : ℕ) (n : Name) → reference_of (map_meaning (new c d) g) k n ≡ mapped_reference (maps c d) owner (reference_of g k n)
  reference-kept owner pseudo k n = refl
  reference-kept owner (argument s) k n = refl
  reference-kept owner (temporary s) k n = refl
  reference-kept owner (variable of_instance e) k n = refl
  reference-kept owner (variable of_class_side e) k n = refl
  reference-kept owner (variable of_class e) k n = refl
  reference-kept owner (a_class e) k n = refl
  reference-kept owner transcript k n = refl
  reference-kept owner undeclared k n = refl

  target-kept : (owner : Name) (g : MeaningOf Name) (k : ℕ) (n : Name) → IsApart c n g → is_fixed g ≡ false → target_of (map_meaning (new c d) g) k n ≡ mapped_target (maps c d) owner (target_of g k n)
  target-kept owner pseudo k n a e = absurd (false≢true (sym e))
  target-kept owner (argument s) k n a e = absurd (false≢true (sym e))
  target-kept owner (temporary s) k n a e = refl
  target-kept owner (variable of_instance x) k n a e = refl
  target-kept owner (variable of_class_side x) k n a e = refl
  target-kept owner (variable of_class x) k n a e = refl
  target-kept owner (a_class x) k n a e = ap to_fixed (sym (new-other c d n a))
  target-kept owner transcript k n a e = ap to_fixed (sym (new-other c d n a))
  target-kept owner undeclared k n a e = refl

  module _ (s : ScopeOf Name) (to : NewName Name) (before after : Name → MeaningOf Name)
      (stays : (n : Name) → Other c d n → is_that_class text_eq c (before n) ≡ false → after n ≡ map_meaning (new c d) (before n))
      (apart : (n : Name) → is_that_class text_eq c (before n) ≡ false → IsApart c n (before n))
      (meant : (n : Name) → is_that_class text_eq c (before n) ≡ true → (n ≡ c) × (before n ≡ a_class c))
      (anew : after d ≡ a_class d) (proper : is_pseudo_variable d ≡ false) (path : List ℕ) (free : local_by text_eq (scopes_round s path) d ≡ NotLocal) where
    -- what a name means before and after
    abbrev was : Name → MeaningOf Name
    was n = meaning_at s before path n

    abbrev is_now : Name → MeaningOf Name
    is_now n = meaning_at (renamed_scope to s) after path n

    -- by the scopes before
    now-by : (n : Name) → is_now n ≡ by_local (is_pseudo_variable n) (local_by text_eq (scopes_round s path) n) (after n)
    now-by n = ap (λ l. by_local (is_pseudo_variable n) l (after n)) (local-renamed s to path n)

    -- anything but the class
    now-kept : (n : Name) → Other c d n → is_that_class text_eq c (was n) ≡ false → is_now n ≡ map_meaning (new c d) (was n)
    now-kept n o e = now-by n ∙ kept-by (is_pseudo_variable n) (local_by text_eq (scopes_round s path) n) (before n) (after n) (stays n o) e

    -- the new name
    now-new : is_now d ≡ a_class d
    now-new = now-by d ∙ (λ i. by_local (proper i) (free i) (anew i))

    -- the class, where it is meant
    was-class : (n : Name) → is_that_class text_eq c (was n) ≡ true → (n ≡ c) × (was n ≡ a_class c)
    was-class n e =
        let behind = class-by (is_pseudo_variable n) (local_by text_eq (scopes_round s path) n) (before n) e in
        let named = meant n behind.1 in
        (named.0, behind.0 ∙ named.1)

    module _ (owner n m : Name) (other : Other c d n) (called : m ≡ (if is_that_class text_eq c (was n) then d else n)) where
      -- by whether it means the class
      called-new : is_that_class text_eq c (was n) ≡ true → m ≡ d
      called-new e = called ∙ ap (λ b. if b then d else n) e

      called-old : is_that_class text_eq c (was n) ≡ false → m ≡ n
      called-old e = called ∙ ap (λ b. if b then d else n) e

      -- what is read after is what was read before, with the new names
      pub read-after : reference_of (is_now m) (place_at (renamed_scope to s) path m) m ≡ mapped_reference (maps c d) owner (reference_of (was n) (place_at s path n) n)
      read-after =
          by_cases (is_that_class text_eq c (was n))
          (λ e.
          ap (λ x. reference_of (is_now x) (place_at (renamed_scope to s) path x) x) (called-new e)
          ∙ ap (λ g. reference_of g (place_at (renamed_scope to s) path d) d) now-new
          ∙ ap of_named_class (sym (new-class c d c (text_eq-refl c)))
          ∙ ap (λ g. mapped_reference (maps c d) owner (reference_of g (place_at s path n) n)) (sym (was-class n e).1))
          (λ e.
          ap (λ x. reference_of (is_now x) (place_at (renamed_scope to s) path x) x) (called-old e)
          ∙ (λ i. reference_of (now-kept n other e i) (place-renamed s to path n i) n)
          ∙ reference-kept owner (was n) (place_at s path n) n)

      -- what is assigned after is what was assigned before
      pub assigned-after : is_fixed (was n) ≡ false → target_of (is_now m) (place_at (renamed_scope to s) path m) m ≡ mapped_target (maps c d) owner (target_of (was n) (place_at s path n) n)
      assigned-after loose =
          by_cases (is_that_class text_eq c (was n))
          (λ e.
          ap (λ x. target_of (is_now x) (place_at (renamed_scope to s) path x) x) (called-new e)
          ∙ ap (λ g. target_of g (place_at (renamed_scope to s) path d) d) now-new
          ∙ ap to_fixed (sym (ap (new c d) (was-class n e).0 ∙ new-class c d c (text_eq-refl c)))
          ∙ ap (λ g. mapped_target (maps c d) owner (target_of g (place_at s path n) n)) (sym (was-class n e).1))
          (λ e.
          ap (λ x. target_of (is_now x) (place_at (renamed_scope to s) path x) x) (called-old e)
          ∙ (λ i. target_of (now-kept n other e i) (place-renamed s to path n i) n)
          ∙ target-kept owner (was n) (place_at s path n) n (apart-by n (is_pseudo_variable n) (local_by text_eq (scopes_round s path) n) (before n) (apart n) e) loose)
