-- The do-its that differ get their sources.
use Rattle.std.proofs.Common.{◌≡◌, ◌≢◌, ◌⊎◌, inl, inr, ℕ, suc, ◌≤◌, Bool, true, false, not, List, [], ◌∷◌, ◌++◌, length, map, None, Ok, Err, refl, ap, sym, subst, ◌∙◌, arith, append_assoc, length-append}
use Rattle.std.specs.Prelude.{◌-◌, ◌==◌, ◌&&◌, ◌||◌, slice_set, if◌then◌else◌}
use Rattle.std.specs.Option.{option_map_or}
use Rattle.std.proofs.Math.Dec.{eqb}
use Rattle.std.proofs.lemmas.Bool.{le-leb}
use Rattle.std.proofs.lemmas.Bool.Decides.{eqb_tells}
use Rattle.rb_base.specs.Names.{text_eq}
use Rattle.token_model.specs.declared.kind.Dialect.TheVariants.{Second}
use Rattle.grammar_model.specs.Spelling.{SpellsDoIt}
use Rattle.grammar_model.proofs.Texts.{one_SpellsDoIt}
use Rattle.image_model.specs.Image.{DoItOf, ImageOf}
use Rattle.file_model.specs.Causes.{first_cause}
use Rattle.file_model.specs.Fileable.{MayStand}
use Rattle.file_model.specs.Filing.{Text}
use Rattle.file_model.specs.Forms.{Form, Evaluates, form_of, is_doit}
use Rattle.file_model.specs.Places.{PlacedOf, PlacesOf}
use Rattle.file_laws.proofs.Moves.{text_equal}
use Rattle.file_rereading.proofs.Says.{none_holds}
use Rattle.change_model.specs.Differs.{other_doits}
use Rattle.change_model.specs.Edits.{Edit, Replace}
use Rattle.change_model.specs.Edited.{doit_refusals, edited, AreMade, Over, Made}
use Rattle.change_laws.specs.Merged.{Has}

-- an edit that replaces a do-it
abbrev pub replace_of : PlacedOf (DoItOf Text) → Edit
replace_of p = Replace p.place p.item

-- a do-it that may replace another: it is one as a chunk of its own
pub record MayReplace (d : DoItOf Text) : Type 0 where
  pub spells : SpellsDoIt Second d.source d.body
  pub stands : MayStand d.source
  pub form : form_of Second false d.body ≡ Evaluates

-- a text that may stand is not empty
not_empty : (s : Text) → MayStand s → (length s == 0) ≡ false
not_empty [] h = absurd (h.some refl)
not_empty (b ∷ s) h = by (eqb_tells (length (b ∷ s)) 0)
  where
    by : ((eqb (length (b ∷ s)) 0 ≡ true) × (length (b ∷ s) ≡ 0)) ⊎ ((eqb (length (b ∷ s)) 0 ≡ false) × (length (b ∷ s) ≢ 0)) → (length (b ∷ s) == 0) ≡ false
    by (inl t) = absurd (omega (arith, t.1))
    by (inr t) = t.0

-- the do-it of a number that is there is replaced
not_refused : (k : ℕ) (d : DoItOf Text) (i : ImageOf Text) → 1 ≤ k → k ≤ length i.doits → MayReplace d → first_cause (doit_refusals k d i) ≡ None
not_refused k d i from to m =
    none_holds (doit_refusals k d i) (
      (λ j. not (le-leb 1 k from j && le-leb k (length i.doits) to j)),
      ((λ j. not_empty d.source m.stands j || not (m.stands.no_blank j == 0)), (ap (λ (f : Form). not (is_doit f)) m.form, tt)),
    )

-- replacements are made, and leave all but the do-its
pub record AreReplaced (es : List Edit) (i : ImageOf Text) (old new : List (DoItOf Text)) (places : PlacesOf Text) : Type 0 where
  pub stated : PlacesOf Text
  pub made : AreMade es (record { image = record i { doits = old }; places = places }) (record { image = record i { doits = new }; places = stated })
  pub classes : stated.classes ≡ places.classes
  pub methods : stated.methods ≡ places.methods

set_behind : (front : List (DoItOf Text)) (d e : DoItOf Text) (ds : List (DoItOf Text)) → slice_set (front ++ d ∷ ds) (length front) e ≡ front ++ e ∷ ds
set_behind [] d e ds = refl
set_behind (x ∷ xs) d e ds = ap (λ (ys : List (DoItOf Text)). x ∷ ys) (set_behind xs d e ds)

pub replaces : (i : ImageOf Text) (front ds es : List (DoItOf Text)) (places : PlacesOf Text) → length ds ≡ length es → ((d : DoItOf Text) → Has d ds → SpellsDoIt Second d.source d.body) → ((e : DoItOf Text) → Has e es → MayReplace e)
    → AreReplaced (map replace_of (other_doits (suc (length front)) ds es)) i (front ++ ds) (front ++ es) places
replaces i front [] [] places size old new = record { stated = places; made = Over; classes = refl; methods = refl }
replaces i front [] (e ∷ es) places size old new = absurd (omega (arith, size))
replaces i front (d ∷ ds) [] places size old new = absurd (omega (arith, size))
replaces i front (d ∷ ds) (e ∷ es) places size old new =
    by (text_eq d.source e.source) refl (λ x ps. subst (λ (k : ℕ). AreReplaced (map replace_of (other_doits k ds es)) i ((front ++ x ∷ []) ++ ds) ((front ++ x ∷ []) ++ es) ps) (ap (λ (n : ℕ). suc n) (one_more front x)) (replaces i (front ++ x ∷ []) ds es ps (omega (arith, size)) (λ z h. old z (inr h)) (λ z h. new z (inr h))))
  where
    one_more : (xs : List (DoItOf Text)) (x : DoItOf Text) → length (xs ++ x ∷ []) ≡ suc (length xs)
    one_more xs x = omega (arith, length-append xs (x ∷ []))

    same : text_eq d.source e.source ≡ true → d ≡ e
    same h =
        let source = text_equal d.source e.source h in
        let body = one_SpellsDoIt Second e.source d.body e.body (subst (λ (t : Text). SpellsDoIt Second t d.body) source (old d (inl refl))) (new e (inl refl)).spells in
        λ j. record { source = source j; body = body j }

    step : (ps : PlacesOf Text) → edited (Replace (suc (length front)) e) (record { image = record i { doits = front ++ d ∷ ds }; places = ps }) ≡ Ok (record { image = record i { doits = front ++ e ∷ ds }; places = record ps { next = None } })
    step ps =
        let now : ImageOf Text = record i { doits = front ++ d ∷ ds } in
        let none = not_refused (suc (length front)) e now (omega arith) (omega (arith, length-append front (d ∷ ds))) (new e (inl refl)) in
        let at : suc (length front) - 1 ≡ length front = omega arith in
        ap (λ o. option_map_or Err o (Ok (record { image = record i { doits = slice_set (front ++ d ∷ ds) (suc (length front) - 1) e }; places = record ps { next = None } }))) none
        ∙ (λ j. Ok (record { image = record i { doits = (ap (λ (n : ℕ). slice_set (front ++ d ∷ ds) n e) at ∙ set_behind front d e ds) j }; places = record ps { next = None } }))

    by : (b : Bool) → text_eq d.source e.source ≡ b
        → ((x : DoItOf Text) (ps : PlacesOf Text) → AreReplaced (map replace_of (other_doits (suc (suc (length front))) ds es)) i ((front ++ x ∷ []) ++ ds) ((front ++ x ∷ []) ++ es) ps)
        → AreReplaced (map replace_of (if b then other_doits (suc (suc (length front))) ds es else record { place = suc (length front); item = e } ∷ other_doits (suc (suc (length front))) ds es)) i (front ++ d ∷ ds) (front ++ e ∷ es) places
    by true h rest =
        let r = rest e places in
        let begins : (front ++ e ∷ []) ++ ds ≡ front ++ d ∷ ds = append_assoc front (e ∷ []) ds ∙ ap (λ (x : DoItOf Text). front ++ x ∷ ds) (sym (same h)) in
        let ends : (front ++ e ∷ []) ++ es ≡ front ++ e ∷ es = append_assoc front (e ∷ []) es in
        subst (λ (ys : List (DoItOf Text)). AreReplaced (map replace_of (other_doits (suc (suc (length front))) ds es)) i ys (front ++ e ∷ es) places) begins
        (subst (λ (ys : List (DoItOf Text)). AreReplaced (map replace_of (other_doits (suc (suc (length front))) ds es)) i ((front ++ e ∷ []) ++ ds) ys places) ends r)
    by false h rest =
        let r = rest e (record places { next = None }) in
        let begins : (front ++ e ∷ []) ++ ds ≡ front ++ e ∷ ds = append_assoc front (e ∷ []) ds in
        let ends : (front ++ e ∷ []) ++ es ≡ front ++ e ∷ es = append_assoc front (e ∷ []) es in
        let q = subst (λ (ys : List (DoItOf Text)). AreReplaced (map replace_of (other_doits (suc (suc (length front))) ds es)) i ys (front ++ e ∷ es) (record places { next = None })) begins
        (subst (λ (ys : List (DoItOf Text)). AreReplaced (map replace_of (other_doits (suc (suc (length front))) ds es)) i ((front ++ e ∷ []) ++ ds) ys (record places { next = None })) ends r) in
        record { stated = q.stated; made = Made (step places) q.made; classes = q.classes; methods = q.methods }
