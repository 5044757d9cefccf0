-- What each chunk keeps of the image holds of what is read.
use Rattle.std.proofs.Common.{◌≡◌, ◌≢◌, ◌⊎◌, inl, inr, ℕ, ◌+◌, Bool, true, false, not, List, [], length, Option, Some, None, Result, Ok, Err, refl, sym, ap, subst, ◌∙◌, true≢false}
use Rattle.std.specs.Prelude.{◌||◌, ◌==◌, if◌then◌else◌}
use Rattle.std.specs.Result.{result_map_both}
use Rattle.std.proofs.Math.Dec.{eqb}
use Rattle.std.proofs.lemmas.Bool.Decides.{eqb_tells}
use Rattle.rb_base.specs.Names.{text_eq}
use Rattle.token_model.specs.declared.kind.Dialect.{Dialect}
use Rattle.tree_model.specs.Tree.{SequenceOf, MethodOf}
use Rattle.chunk_format.specs.Blank.{blank_len, HasNoLeadingBlank}
use Rattle.chunk_format.specs.Chunks.{Piece}
use Rattle.chunk_format.specs.declared.chunk_iter.Unended.{Unended as NoEnd}
use Rattle.grammar_model.specs.Spelling.{SpellsDoIt, SpellsMethod}
use Rattle.image_model.specs.Image.{DoItOf, ImageOf, plus}
use Rattle.file_model.specs.Causes.{Cause, unless, Syntax}
use Rattle.file_model.specs.Changes.{ChangeOf, RunOf}
use Rattle.file_model.specs.Fileable.{MayStand}
use Rattle.file_model.specs.Forms.{Form, Evaluates, Changes, Opens, OpensAt, Settles, Refuses, form_of, is_doit}
use Rattle.file_model.specs.Hierarchy.{has_class}
use Rattle.file_model.specs.Refusals.{run_refusals, method_refusals}
use Rattle.file_model.specs.Applied.{changed, with_method, method_added}
use Rattle.file_model.specs.Places.{PlacesOf, no_places, places_after, opened_at, places_behind, placed}
use Rattle.file_model.specs.Filing.{Text, Filing, begun, Item, goes_on, with_doit, form_taken, replacement_refusals, with_replaced, taken}
use Rattle.file_model.specs.Reading.{IsItem, Empty, DoItRead, ReplacementRead, ReplacementFault, DoItFault, MethodRead, MethodFault, TakesAll, Over, Taken, ReadsText, no_image, IsKernelOf, IsImageOf}
use Rattle.file_laws.proofs.Refused.{unless_ok, allowed}
use Rattle.file_laws.proofs.Sources.{source_begins}

-- a do-it that stands as a chunk
pub record IsChunkDoIt (d : Dialect) (kernel : Bool) (x : DoItOf Text) : Type 0 where
  pub spells : SpellsDoIt d x.source x.body
  pub stands : MayStand x.source
  pub form : form_of d kernel x.body ≡ Evaluates

-- What all that chunks make of an image keeps: changes, methods that are added to a class that is there, do-its that are added or replaced, and methods and classes that go to the places that are stated for them.
pub record IsKeptByChunks (d : Dialect) (kernel : Bool) (P : ImageOf Text → Type 0) : Type 0 where
  pub changes : (b : SequenceOf Text) (c : ChangeOf Text) (i j : ImageOf Text) → form_of d kernel b ≡ Changes c → changed text_eq kernel c i ≡ Ok j → P i → P j
  pub adds : (r : RunOf Text) (source : Text) (m : MethodOf Text) (i j : ImageOf Text) → SpellsMethod d kernel source m → MayStand source → has_class text_eq i.classes r.class ≡ true → method_added text_eq kernel r source m i ≡ Ok j → P i → P j
  pub counts : (i : ImageOf Text) (x : DoItOf Text) (at_head : Bool) → IsChunkDoIt d kernel x → P i → P (record (plus i x) { heads = if at_head then i.heads + 1 else i.heads })
  pub replaces : (i : ImageOf Text) (numeral : Text) (x : DoItOf Text) → IsChunkDoIt d kernel x → P i → P (with_replaced i numeral x)
  pub places : (i : ImageOf Text) (stated : PlacesOf Text) → P i → P (placed text_eq stated i)

-- what is kept so far: it holds of the image, and the class of the run of methods is there
pub record IsSoFar (P : ImageOf Text → Type 0) (f : Filing) : Type 0 where
  pub image : P f.image
  pub run : (r : RunOf Text) → f.run ≡ Some r → has_class text_eq f.image.classes r.class ≡ true

-- a test whose negation fails passes
pub not_false : (b : Bool) → not b ≡ false → b ≡ true
not_false true h = refl
not_false false h = absurd (true≢false h)

-- outside a run of methods nothing is known of the run
no_run : (i : ImageOf Text) (r : RunOf Text) → ◌≡◌ {A = Option (RunOf Text)} None (Some r) → has_class text_eq i.classes r.class ≡ true
no_run i r e = absurd (cc)

-- a source that is neither empty nor begins with a blank may stand
may_stand : (s : Text) → (length s == 0 || not (blank_len s == 0)) ≡ false → MayStand s
may_stand s e = record { some = some (length s == 0) (blank_len s == 0) e; no_blank = begins (eqb_tells (blank_len s) 0) }
  where
    some : (a b : Bool) → (a || not b) ≡ false → s ≢ []
    some a b h empty = differ (ap (λ (t : Text). length t == 0 || not (blank_len t == 0)) (sym empty) ∙ e)
      where
        differ : true ≡ false → ⊥
        differ q = true≢false q

    second : (a b : Bool) → (a || not b) ≡ false → b ≡ true
    second true b h = absurd (true≢false h)
    second false b h = not_false b h

    begins : ((eqb (blank_len s) 0 ≡ true) × (blank_len s ≡ 0)) ⊎ ((eqb (blank_len s) 0 ≡ false) × (blank_len s ≢ 0)) → HasNoLeadingBlank s
    begins (inl t) = t.1
    begins (inr t) = absurd (true≢false (sym (second (length s == 0) (blank_len s == 0) e) ∙ t.0))

-- a form that is one of a do-it
evaluates : (form : Form) → is_doit form ≡ true → form ≡ Evaluates
evaluates Evaluates h = refl
evaluates (Changes c) h = absurd (true≢false (sym h))
evaluates (Opens r) h = absurd (true≢false (sym h))
evaluates (OpensAt r k) h = absurd (true≢false (sym h))
evaluates Settles h = absurd (true≢false (sym h))
evaluates (Refuses cause) h = absurd (true≢false (sym h))

module _ (d : Dialect) (kernel : Bool) (P : ImageOf Text → Type 0) (keeps : IsKeptByChunks d kernel P) where
  -- a run of methods begins, whose first method has a place or none
  opened : (f g : Filing) (r : RunOf Text) (at : Option ℕ) → Ok g ≡ unless (run_refusals text_eq f.image.classes r) (goes_on (opened_at at f.places) (Some r) f.image) → IsSoFar P f → IsSoFar P g
  opened f g r at e h =
      let a = allowed (run_refusals text_eq f.image.classes r) (goes_on (opened_at at f.places) (Some r) f.image) g (sym e) in
      subst (IsSoFar P) a.same (record { image = h.image; run = λ s q. ap (λ (o : RunOf Text). has_class text_eq f.image.classes o.class) (sym (some s q)) ∙ not_false (has_class text_eq f.image.classes r.class) a.none.0 })
    where
      some : (s : RunOf Text) → Some r ≡ Some s → r ≡ s
      some s q = cc

  -- what a form makes
  kept_form : (f g : Filing) (b : SequenceOf Text) (x : DoItOf Text) (form : Form) → form_of d kernel b ≡ form → Ok g ≡ form_taken kernel f x form → (form ≡ Evaluates → IsChunkDoIt d kernel x) → IsSoFar P f → IsSoFar P g
  kept_form f g b x Evaluates says e doit h = subst (IsSoFar P) (same e) (record { image = keeps.counts f.image x f.at_head (doit refl) h.image; run = h.run })
    where
      same : ◌≡◌ {A = Result Filing Cause} (Ok g) (Ok (with_doit f x)) → with_doit f x ≡ g
      same k = cc
  kept_form f g b x (Changes c) says e doit h = by (changed text_eq kernel c f.image) refl e
    where
      by : (r : Result (ImageOf Text) Cause) → changed text_eq kernel c f.image ≡ r → Ok g ≡ result_map_both (goes_on (places_after text_eq c f.places) None) (λ t. t) r → IsSoFar P g
      by (Ok j) made k = subst (IsSoFar P) (same k) (record { image = keeps.changes b c f.image j says made h.image; run = no_run j })
        where
          same : ◌≡◌ {A = Result Filing Cause} (Ok g) (Ok (goes_on (places_after text_eq c f.places) None j)) → goes_on (places_after text_eq c f.places) None j ≡ g
          same l = cc
      by (Err cause) made k = absurd (differ k)
        where
          differ : ◌≡◌ {A = Result Filing Cause} (Ok g) (Err cause) → ⊥
          differ l = cc
  kept_form f g b x (Opens r) says e doit h = opened f g r None e h
  kept_form f g b x (OpensAt r k) says e doit h = opened f g r (Some k) e h
  kept_form f g b x Settles says e doit h = subst (IsSoFar P) (same e) (record { image = keeps.places f.image f.places h.image; run = no_run (placed text_eq f.places f.image) })
    where
      same : ◌≡◌ {A = Result Filing Cause} (Ok g) (Ok (goes_on no_places None (placed text_eq f.places f.image))) → goes_on no_places None (placed text_eq f.places f.image) ≡ g
      same k = cc
  kept_form f g b x (Refuses cause) says e doit h = absurd (differ e)
    where
      differ : ◌≡◌ {A = Result Filing Cause} (Ok g) (Err cause) → ⊥
      differ l = cc

  -- what a chunk makes
  kept_item : (f g : Filing) (run : Option (RunOf Text)) (source : Text) (x : Item) → f.run ≡ run → IsItem d kernel run source x → HasNoLeadingBlank source → Ok g ≡ taken d kernel f x → IsSoFar P f → IsSoFar P g
  kept_item f g run source x now Empty begins e h = subst (IsSoFar P) (same e) (record { image = h.image; run = no_run f.image })
    where
      same : ◌≡◌ {A = Result Filing Cause} (Ok g) (Ok (record f { run = None })) → record f { run = None } ≡ g
      same k = cc
  kept_item f g run source x now (DoItRead {b = b} n t none) begins e h =
      kept_form f g b (record { source = source; body = b }) (form_of d kernel b) refl e (λ says. record { spells = t; stands = record { some = n; no_blank = begins }; form = says }) h
  kept_item f g run source x now (ReplacementRead {c = c} {r = r} n t states u) begins e h =
      let new : Filing = goes_on (opened_at None f.places) None (with_replaced f.image r.numeral (record { source = r.source; body = c })) in
      let a = allowed (replacement_refusals d kernel f.image r c) new g (sym e) in
      subst (IsSoFar P) a.same (record {
        image = keeps.replaces f.image r.numeral (record { source = r.source; body = c }) (record { spells = u; stands = may_stand r.source a.none.1.0; form = evaluates (form_of d kernel c) (not_false (is_doit (form_of d kernel c)) a.none.1.1.0) }) h.image;
        run = no_run new.image;
      })
  kept_item f g run source x now (ReplacementFault {fault = fault} n t states u) begins e h = absurd (differ e)
    where
      differ : ◌≡◌ {A = Result Filing Cause} (Ok g) (Err (Syntax fault)) → ⊥
      differ k = cc
  kept_item f g run source x now (DoItFault {fault = fault} n t) begins e h = absurd (differ e)
    where
      differ : ◌≡◌ {A = Result Filing Cause} (Ok g) (Err (Syntax fault)) → ⊥
      differ k = cc
  kept_item f g run source x now (MethodRead {run = r} {m = m} n t) begins e h = by (method_added text_eq kernel r source m f.image) refl e
    where
      still : (j : ImageOf Text) → method_added text_eq kernel r source m f.image ≡ Ok j → has_class text_eq j.classes r.class ≡ true
      still j made =
          subst (λ (z : ImageOf Text). has_class text_eq z.classes r.class ≡ true)
          (unless_ok (method_refusals text_eq f.image.methods r m.selector) (record f.image { methods = with_method text_eq kernel r source m f.image.methods }) j made) (h.run r now)

      by : (o : Result (ImageOf Text) Cause) → method_added text_eq kernel r source m f.image ≡ o → Ok g ≡ result_map_both (goes_on (places_behind r.class r.meta m.selector f.places) (Some r)) (λ z. z) o → IsSoFar P g
      by (Ok j) made k = subst (IsSoFar P) (same k) (record {
        image = keeps.adds r source m f.image j t (record { some = n; no_blank = begins }) (h.run r now) made h.image;
        run = λ s o. ap (λ (x : RunOf Text). has_class text_eq j.classes x.class) (sym (some s o)) ∙ still j made;
      })
        where
          same : ◌≡◌ {A = Result Filing Cause} (Ok g) (Ok (goes_on (places_behind r.class r.meta m.selector f.places) (Some r) j)) → goes_on (places_behind r.class r.meta m.selector f.places) (Some r) j ≡ g
          same l = cc

          some : (s : RunOf Text) → Some r ≡ Some s → r ≡ s
          some s o = cc
      by (Err cause) made k = absurd (differ k)
        where
          differ : ◌≡◌ {A = Result Filing Cause} (Ok g) (Err cause) → ⊥
          differ l = cc
  kept_item f g run source x now (MethodFault {fault = fault} n t) begins e h = absurd (differ e)
    where
      differ : ◌≡◌ {A = Result Filing Cause} (Ok g) (Err (Syntax fault)) → ⊥
      differ k = cc

  -- what chunks make
  kept_takes : (f g : Filing) (ps : List Piece) (end : Option NoEnd) → TakesAll d kernel f ps end (Ok g) → IsSoFar P f → IsSoFar P g
  kept_takes f g ps end Over h = h
  kept_takes f g ps end (Taken {g = k} {p = p} t rest) h =
      kept_takes k g _ _ rest (kept_item f k f.run t.source t.item refl t.is_item (source_begins p.body t.source t.is_source) t.result h)

  -- what a text makes
  pub kept_reading : (i : ImageOf Text) (text : Text) (g : Filing) → ReadsText d kernel i text (Ok g) → P i → P g.image
  kept_reading i text g r h = (kept_takes (begun i) g r.pieces r.end r.takes (record { image = h; run = no_run i })).image

-- what the text of the kernel makes
pub kept_kernel : (d : Dialect) (P : ImageOf Text → Type 0) → IsKeptByChunks d true P → (prelude : Text) (k : ImageOf Text) → IsKernelOf d prelude k → P no_image → P k
kept_kernel d P keeps prelude k h start = subst P (sym h.image) (kept_reading d true P keeps no_image prelude h.end h.reads start)

-- the image of a file-out, where what holds of that of the kernel is kept, and gives another fact once methods and classes go to their places
pub kept_end : (d : Dialect) (P Q : ImageOf Text → Type 0) → IsKeptByChunks d false P → ((i : ImageOf Text) (stated : PlacesOf Text) → P i → Q (placed text_eq stated i)) → (prelude text : Text) (i : ImageOf Text) (h : IsImageOf d prelude text i) → P h.kernel → Q i
kept_end d P Q keeps ends prelude text i h start = subst Q (sym h.image) (ends h.end.image h.end.places (kept_reading d false P keeps h.kernel text h.end h.reads start))

-- the image of a file-out, where it holds of that of the kernel
pub kept_image : (d : Dialect) (P : ImageOf Text → Type 0) → IsKeptByChunks d false P → (prelude text : Text) (i : ImageOf Text) (h : IsImageOf d prelude text i) → P h.kernel → P i
kept_image d P keeps = kept_end d P P keeps keeps.places
