-- What known names say of a name behind scopes, and what a meaning says of it.
use Rattle.std.proofs.Common.{◌≡◌, ℕ, Bool, true, false, List, [], ◌∷◌, ◌++◌, Option, Some, None, option_map, refl, sym, ap, ◌∙◌, true≢false, append_assoc}
use Rattle.std.specs.Prelude.{if◌then◌else◌, unwrap_or}
use Rattle.std.specs.Option.{option_or}
use Rattle.rb_base.specs.Names.{text_eq}
use Rattle.scope_model.specs.declared.local.Local.{Local}
use Rattle.scope_model.specs.declared.local.Local.TheVariants.{Argument, Temporary, NotLocal}
use Rattle.scope_model.specs.SpecialNames.{is_pseudo_variable}
use Rattle.scope_model.specs.Scope.{PlacedScope, is_among, local_by, local_in}
use Rattle.grammar_model.specs.Words.{is_pseudo}
use Rattle.grammar_model.specs.Checks.{Known, is_fixed}
use Rattle.reread_law.specs.Declarations.{known_names}
use Rattle.image_model.specs.Image.{ClassOf, EntryOf, ImageOf}
use Rattle.image_model.specs.Words.{text_words}
use Rattle.image_model.specs.Chain.{class_named, chain}
use Rattle.image_model.specs.Means.{of_class, MeaningOf, pseudo, argument, temporary, variable, a_class, transcript, undeclared, definer, side_kind, means_outside, means_by, means}
use Rattle.file_model.specs.Filing.{Text}
use Rattle.command_model.specs.SameMethods.{same_meaning}
use Rattle.code_effect_laws.proofs.Places.{known_by}
use Rattle.code_effect_laws.proofs.Methods.{known_in}
use Rattle.code_effect_laws.proofs.Known.{behind-both, is_argument, no-pseudo, fixed-local}

-- what is known, by what scopes say before it
abbrev pub fixed_by : Local → Bool → Bool
fixed_by (Argument s) b = true
fixed_by (Temporary s) b = false
fixed_by NotLocal b = b

first_by : (k : ℕ) (l : Local) (a b c : Bool) → (if a then true else if b then false else fixed_by l c) ≡ fixed_by (if a then Argument k else if b then Temporary k else l) c
first_by k l true b c = refl
first_by k l false true c = refl
first_by k l false false c = refl

pub known-before : (xs : List (PlacedScope Text)) (ks : List Known) (n : Text) → is_fixed (known_by xs ++ ks) n ≡ fixed_by (local_by text_eq xs n) (is_fixed ks n)
known-before [] ks n = refl
known-before (x ∷ xs) ks n =
    ap (λ zs. is_fixed zs n) (append_assoc (known_names x.1.arguments x.1.temporaries) (known_by xs) ks)
    ∙ behind-both x.1.arguments x.1.temporaries (known_by xs ++ ks) n
    ∙ ap (λ b. if is_among text_eq x.1.arguments n then true else if is_among text_eq x.1.temporaries n then false else b) (known-before xs ks n)
    ∙ first_by x.0 (local_by text_eq xs n) (is_among text_eq x.1.arguments n) (is_among text_eq x.1.temporaries n) (is_fixed ks n)

-- what scopes say behind others
abbrev pub local_behind : Local → Local → Local
local_behind (Argument s) l = Argument s
local_behind (Temporary s) l = Temporary s
local_behind NotLocal l = l

first_behind : (k : ℕ) (l r : Local) (a b : Bool) → (if a then Argument k else if b then Temporary k else local_behind l r) ≡ local_behind (if a then Argument k else if b then Temporary k else l) r
first_behind k l r true b = refl
first_behind k l r false true = refl
first_behind k l r false false = refl

pub local-behind : (xs ys : List (PlacedScope Text)) (n : Text) → local_by text_eq (xs ++ ys) n ≡ local_behind (local_by text_eq xs n) (local_by text_eq ys n)
local-behind [] ys n = refl
local-behind (x ∷ xs) ys n =
    ap (λ l. if is_among text_eq x.1.arguments n then Argument x.0 else if is_among text_eq x.1.temporaries n then Temporary x.0 else l) (local-behind xs ys n)
    ∙ first_behind x.0 (local_by text_eq xs n) (local_by text_eq ys n) (is_among text_eq x.1.arguments n) (is_among text_eq x.1.temporaries n)

-- whether a meaning is an argument
abbrev pub means_argument : MeaningOf Text → Bool
means_argument pseudo = false
means_argument (argument j) = true
means_argument (temporary j) = false
means_argument (variable kind c) = false
means_argument (a_class c) = false
means_argument transcript = false
means_argument undeclared = false

-- behind all scopes nothing is an argument
pub outside_loose : (i : ImageOf Text) (home : Option Text) (meta : Bool) (n : Text) → means_argument (means_outside text_words i home meta n) ≡ false
outside_loose i home meta n = by (definer text_eq (side_kind meta) (chain text_eq i.classes home) n) (definer text_eq of_class (chain text_eq i.classes home) n) (class_named text_eq i.classes n) (text_words.is_transcript n)
  where
    by : (side shared named : Option (ClassOf Text)) (t : Bool)
        → means_argument (unwrap_or (option_or (option_map (λ (c : ClassOf Text). variable (side_kind meta) c.name) side) (option_or (option_map (λ (c : ClassOf Text). variable of_class c.name) shared)
        (option_or (option_map (λ (c : ClassOf Text). a_class c.name) named) (if t then Some transcript else None)))) undeclared) ≡ false
    by (Some c) shared named t = refl
    by None (Some c) named t = refl
    by None None (Some c) t = refl
    by None None None true = refl
    by None None None false = refl

-- what means the same is an argument where the other is
pub same_argument : (p q : MeaningOf Text) → same_meaning text_eq p q ≡ true → means_argument p ≡ means_argument q
same_argument pseudo pseudo e = refl
same_argument pseudo (argument k) e = absurd (true≢false (sym e))
same_argument pseudo (temporary k) e = refl
same_argument pseudo (variable k c) e = refl
same_argument pseudo (a_class c) e = refl
same_argument pseudo transcript e = refl
same_argument pseudo undeclared e = refl
same_argument (argument j) pseudo e = absurd (true≢false (sym e))
same_argument (argument j) (argument k) e = refl
same_argument (argument j) (temporary k) e = absurd (true≢false (sym e))
same_argument (argument j) (variable k c) e = absurd (true≢false (sym e))
same_argument (argument j) (a_class c) e = absurd (true≢false (sym e))
same_argument (argument j) transcript e = absurd (true≢false (sym e))
same_argument (argument j) undeclared e = absurd (true≢false (sym e))
same_argument (temporary j) pseudo e = refl
same_argument (temporary j) (argument k) e = absurd (true≢false (sym e))
same_argument (temporary j) (temporary k) e = refl
same_argument (temporary j) (variable k c) e = refl
same_argument (temporary j) (a_class c) e = refl
same_argument (temporary j) transcript e = refl
same_argument (temporary j) undeclared e = refl
same_argument (variable j c) pseudo e = refl
same_argument (variable j c) (argument k) e = absurd (true≢false (sym e))
same_argument (variable j c) (temporary k) e = refl
same_argument (variable j c) (variable k d) e = refl
same_argument (variable j c) (a_class d) e = refl
same_argument (variable j c) transcript e = refl
same_argument (variable j c) undeclared e = refl
same_argument (a_class c) pseudo e = refl
same_argument (a_class c) (argument k) e = absurd (true≢false (sym e))
same_argument (a_class c) (temporary k) e = refl
same_argument (a_class c) (variable k d) e = refl
same_argument (a_class c) (a_class d) e = refl
same_argument (a_class c) transcript e = refl
same_argument (a_class c) undeclared e = refl
same_argument transcript pseudo e = refl
same_argument transcript (argument k) e = absurd (true≢false (sym e))
same_argument transcript (temporary k) e = refl
same_argument transcript (variable k d) e = refl
same_argument transcript (a_class d) e = refl
same_argument transcript transcript e = refl
same_argument transcript undeclared e = refl
same_argument undeclared pseudo e = refl
same_argument undeclared (argument k) e = absurd (true≢false (sym e))
same_argument undeclared (temporary k) e = refl
same_argument undeclared (variable k d) e = refl
same_argument undeclared (a_class d) e = refl
same_argument undeclared transcript e = refl
same_argument undeclared undeclared e = refl

-- what a name means at a place is an argument where its scopes say so
meaning_by : (l : Local) (g : MeaningOf Text) → means_argument g ≡ false → means_argument (means_by l g) ≡ is_argument l
meaning_by (Argument s) g e = refl
meaning_by (Temporary s) g e = refl
meaning_by NotLocal g e = e

pub meaning_argument : (i : ImageOf Text) (m : EntryOf Text) (path : List ℕ) (n : Text) → is_pseudo n ≡ false → means_argument (means text_words i m path n) ≡ is_fixed (known_in m.tree path) n
meaning_argument i m path n ordinary =
    ap (λ b. means_argument (if b then pseudo else means_by (local_in text_eq is_pseudo_variable m.tree path n) (means_outside text_words i m.class m.meta n))) (no-pseudo n ordinary)
    ∙ meaning_by (local_in text_eq is_pseudo_variable m.tree path n) (means_outside text_words i m.class m.meta n) (outside_loose i m.class m.meta n)
    ∙ sym (fixed-local m.tree path n ordinary)

-- so names that mean the same at two places may be assigned at both or at none
pub same_fixed : (i : ImageOf Text) (m o : EntryOf Text) (p q : List ℕ) (n : Text) → is_pseudo n ≡ false → same_meaning text_eq (means text_words i m p n) (means text_words i o q n) ≡ true →
    is_fixed (known_in m.tree p) n ≡ is_fixed (known_in o.tree q) n
same_fixed i m o p q n ordinary e =
    sym (meaning_argument i m p n ordinary) ∙ same_argument (means text_words i m p n) (means text_words i o q n) e ∙ meaning_argument i o q n ordinary
