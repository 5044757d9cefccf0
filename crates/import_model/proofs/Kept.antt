-- A file-out of this Smalltalk stays as it is.
use Rattle.std.proofs.Common.{◌≡◌, ◌≢◌, ℕ, zero, suc, ◌⊎◌, inl, inr, true≢false, le_refl, arith, length, List, [], ◌∷◌, ◌++◌, Bool, true, false, Option, Some, None, Result, Ok, Err, refl, sym, ap, subst, ◌∙◌, append_assoc, take, drop, eqb-true}
use Rattle.std.specs.Prelude.{nat_eq, ◌&&◌, if◌then◌else◌}
use Rattle.std.specs.Cmp.Lexicographic.{pointwise}
use Rattle.std.specs.Option.{option_map_or}
use Rattle.std.specs.Result.{result_map_both}
use Rattle.rb_base.specs.Names.{text_eq}
use Rattle.token_model.specs.declared.kind.Dialect.TheVariants.{Second}
use Rattle.token_model.specs.declared.kind.TokenKind.{TokenKind}
use Rattle.token_model.specs.declared.kind.TokenKind.TheVariants.{Identifier, End}
use Rattle.token_model.specs.Bytes.{is_blank, IsRun}
use Rattle.token_model.specs.Tokens.{IsToken}
use Rattle.token_model.specs.TokenLists as lists
use Rattle.token_model.proofs.Leads.{lead_of_token, same_normal, normal}
use Rattle.tree_model.specs.Tree.{SequenceOf}
use Rattle.rb_base.specs.Doubling.{doubled}
use Rattle.chunk_format.specs.Blank.{blank_len, drop_blanks}
use Rattle.chunk_format.proofs.Doubles.{mark_or_not, doubled-mark, doubled-other}
use Rattle.chunk_format.specs.Left.{Left, start_of}
use Rattle.chunk_format.specs.Chunks as chunks
use Rattle.chunk_format.specs.Chunks.{Piece, HasChunks, First}
use Rattle.chunk_format.specs.declared.chunk_iter.Unended.{Unended as NoEnd}
use Rattle.grammar_model.specs.Spelling.{SpellsDoIt}
use Rattle.image_model.specs.Image.{DoItOf, ImageOf}
use Rattle.file_model.specs.Causes.{Cause, Refusal}
use Rattle.file_model.specs.Changes.{RunOf}
use Rattle.file_model.specs.Applied.{changed, method_added}
use Rattle.file_model.specs.Filing.{Text, Filing, Item, with_doit, goes_on, form_taken, taken, begun}
use Rattle.file_model.specs.Places.{no_places, placed}
use Rattle.file_model.specs.Forms.{Form, Evaluates, Changes, Opens, OpensAt, Settles, Refuses, form_of, Replacement, replacement_in}
use Rattle.file_model.specs.Reading.{IsItem, Empty, DoItRead, ReplacementRead, ReplacementFault, DoItFault, MethodRead, MethodFault, Takes, TakesAll, Over, Taken, ReadsText}
use Rattle.import_model.specs.Steps as step
use Rattle.import_model.specs.Steps.{Next, Outside, InRun, Made, kept, said, spelled, Becomes, Imports}
use Rattle.import_model.specs.Imported as imported

-- what the next chunk is, by the run of methods in which it stands
abbrev pub next_in : Option (RunOf Text) → Next
next_in None = Outside
next_in (Some run) = InRun

-- a value that is made of another unless there is a cause
pub unless_is : {X : Type 0} (o : Option Cause) (x y : X) → ◌≡◌ {A = Result X Cause} (Ok y) (option_map_or Err o (Ok x)) → y ≡ x
unless_is None x y e = cc
unless_is (Some cause) x y e = absurd (cc)

-- what is made of a result, where there is one
pub made_of : {X Y : Type 0} (f : X → Y) (r : Result X Cause) (y : Y) → Ok y ≡ result_map_both f (λ (c : Cause). c) r → (x : X) × (y ≡ f x)
made_of f (Ok x) y e = (x, cc)
made_of f (Err c) y e = absurd (cc)

module _ (p : Piece) (f g : Filing) where
  -- the next chunk stands where it says
  stays_as : (now : Next) (run : Option (RunOf Text)) → g.run ≡ run → now ≡ next_in run → kept p now ≡ kept p (next_in g.run)
  stays_as now run e n = ap (kept p) (n ∙ ap next_in (sym e))

  -- a do-it, by what it says
  said_stays : (b : SequenceOf Text) (d : DoItOf Text) (form : Form) → f.run ≡ None → Ok g ≡ form_taken false f d form → said p b form ≡ kept p (next_in g.run)
  said_stays b d Evaluates outside e = stays_as Outside None ((let same : g ≡ with_doit f d = cc in ap (λ (x : Filing). x.run) same) ∙ outside) refl
  said_stays b d (Changes c) outside e = let m = made_of _ (changed text_eq false c f.image) g e in stays_as Outside None (ap (λ (x : Filing). x.run) m.1) refl
  said_stays b d (Opens r) outside e = stays_as InRun (Some r) (ap (λ (x : Filing). x.run) (unless_is _ _ g e)) refl
  said_stays b d (OpensAt r k) outside e = stays_as InRun (Some r) (ap (λ (x : Filing). x.run) (unless_is _ _ g e)) refl
  said_stays b d Settles outside e = stays_as Outside None (let same : g ≡ goes_on no_places None (placed text_eq f.places f.image) = cc in ap (λ (x : Filing). x.run) same) refl
  said_stays b d (Refuses cause) outside e = absurd (cc)

  -- a do-it, by its tree
  spelled_stays : (b : SequenceOf Text) → said p b (form_of Second false b) ≡ kept p (next_in g.run) → replacement_in b ≡ None → spelled p b ≡ kept p (next_in g.run)
  spelled_stays b e none = ap (λ (o : Option Replacement). option_map_or (λ (r : Replacement). kept p Outside) o (said p b (form_of Second false b))) none ∙ e

  replacing_stays : (b : SequenceOf Text) (r : Replacement) → replacement_in b ≡ Some r → g.run ≡ None → spelled p b ≡ kept p (next_in g.run)
  replacing_stays b r states none = ap (λ (o : Option Replacement). option_map_or (λ (r : Replacement). kept p Outside) o (said p b (form_of Second false b))) states ∙ stays_as Outside None none refl

  -- an item
  item_stays : (run : Option (RunOf Text)) (source : Text) (x : Item) → IsItem Second false run source x → f.run ≡ run → Ok g ≡ taken Second false f x → Becomes p (next_in run) source (kept p (next_in g.run))
  item_stays run source x (Empty {run = None}) is e =
      subst (λ (r : Result Made Cause). Becomes p Outside [] r) (stays_as Outside None (let same : g ≡ record f { run = None } = cc in ap (λ (y : Filing). y.run) same) refl) step.Blank
  item_stays run source x (Empty {run = Some r}) is e =
      subst (λ (r : Result Made Cause). Becomes p InRun [] r) (stays_as Outside None (let same : g ≡ record f { run = None } = cc in ap (λ (y : Filing). y.run) same) refl) step.RunEnds
  item_stays run source x (DoItRead {b} some spells none) is e =
      subst (λ (r : Result Made Cause). Becomes p Outside source r) (spelled_stays b (said_stays b (record { source = source; body = b }) (form_of Second false b) is e) none) (step.IsDoIt some spells)
  item_stays run source x (ReplacementRead {b} {c} {r} some spells states other) is e =
      subst (λ (r : Result Made Cause). Becomes p Outside source r) (replacing_stays b r states (ap (λ (y : Filing). y.run) (unless_is _ _ g e))) (step.IsDoIt some spells)
  item_stays run source x (ReplacementFault some spells states wrong) is e = absurd (cc)
  item_stays run source x (DoItFault some wrong) is e = absurd (cc)
  item_stays run source x (MethodRead {run = r} {m} some spells) is e =
      let made = made_of _ (method_added text_eq false r source m f.image) g e in
      subst (λ (y : Result Made Cause). Becomes p InRun source y) (stays_as InRun (Some r) (ap (λ (y : Filing). y.run) made.1) refl) (step.IsMethod some)
  item_stays run source x (MethodFault some wrong) is e = absurd (cc)

  -- a chunk
  pub takes_stay : Takes Second false f p (Ok g) → Imports p (next_in f.run) (kept p (next_in g.run))
  takes_stay t = record { source = t.source; is_source = t.is_source; becomes = item_stays f.run t.source t.item t.is_item refl t.result }

-- the blanks at the end
pub end_stays : (run : Option (RunOf Text)) (rest : Text) → imported.ended (next_in run) rest ≡ Ok rest
end_stays None rest = refl
end_stays (Some r) rest = refl

-- all that is left
pub all_stay : (f g : Filing) (left : Left) (ps : List Piece) (end : Option NoEnd) → HasChunks left ps end → TakesAll Second false f ps end (Ok g) → imported.Becomes (next_in f.run) left (Ok left.rest)
all_stay f g left ps end (chunks.Over over) Over = subst (λ (r : Result Text Refusal). imported.Becomes (next_in f.run) left r) (end_stays f.run left.rest) (imported.Over over)
all_stay f g left ps end (First {new} {p} {ps = more} t h) (Taken {g = m} a rest) =
    let others = all_stay m g new more end h rest in
    let whole : (p.body ++ 33 ∷ []) ++ new.rest ≡ left.rest = append_assoc p.body (33 ∷ []) new.rest ∙ sym t.cut.whole in
    subst (λ (x : Text). imported.Becomes (next_in f.run) left (Ok x)) whole (imported.Chunk t (takes_stay p f m a) others)
all_stay f g _ _ _ (chunks.Refused {left = left} {e = e} cut) x = elim x [ ]

-- no token begins with the first byte of a byte order mark
no_token : (t : Text) (k : TokenKind) (j : ℕ) → IsToken Second k (239 ∷ t) 0 j → ⊥
no_token t k j token =
    let same : normal k ≡ End = sym (lead_of_token Second k (239 ∷ t) 0 j token) in
    by (same_normal k End same)
  where
    by : (k ≡ End) ⊎ ((normal k ≡ Identifier) × (normal End ≡ Identifier)) → ⊥
    by (inl is) = let at : IsToken Second End (239 ∷ t) 0 j = subst (λ (x : TokenKind). IsToken Second x (239 ∷ t) 0 j) is token in omega (arith, at.0)
    by (inr words) = cc

-- so no do-it does
no_blank : (t : Text) (n : ℕ) → IsRun is_blank (239 ∷ t) 0 n → n ≡ 0
no_blank t zero run = refl
no_blank t (suc n) run = absurd (true≢false (sym (run.all 0 (le_refl 0) (omega arith))))

first_token : (t : Text) (p : lists.Piece) → lists.IsNext Second (239 ∷ t) 0 p → ⊥
first_token t p next = no_token t p.kind p.to (subst (λ (n : ℕ). IsToken Second p.kind (239 ∷ t) n p.to) (no_blank t p.from next.blanks) next.token)

no_tokens : (t : Text) (ps : List lists.Piece) → lists.HasTokens Second (239 ∷ t) 0 ps None → ⊥
no_tokens t ps (lists.Ended at p next end) = first_token t p next
no_tokens t ps (lists.Further at p rest fault next more others) = first_token t p next

pub no_doit : (t : Text) (b : SequenceOf Text) → SpellsDoIt Second (239 ∷ t) b → ⊥
no_doit t b spells = let lexed = spells.spells.lexed in no_tokens t lexed.pieces lexed.read

-- a source that begins with a byte other than the mark
pub doubled_first : (n : ℕ) → n ≢ 33 → (source t : Text) → doubled 33 source ≡ n ∷ t → (s : Text) × (source ≡ n ∷ s)
doubled_first n mark [] t e = absurd (cc)
doubled_first n mark (x ∷ s) t e = by (mark_or_not 33 x)
  where
    by : (x ≡ 33) ⊎ (x ≢ 33) → (u : Text) × (x ∷ s ≡ n ∷ u)
    by (inl is) =
        let pair : 33 ∷ 33 ∷ doubled 33 s ≡ n ∷ t = sym (doubled-mark 33 s) ∙ ap (λ y. doubled 33 (y ∷ s)) (sym is) ∙ e in
        let same : n ≡ 33 = cc in absurd (mark same)
    by (inr other) =
        let whole : x ∷ doubled 33 s ≡ n ∷ t = sym (doubled-other 33 x s other) ∙ e in
        let same : x ≡ n = cc in (s, ap (λ y. y ∷ s) same)

-- the first byte of a byte order mark is not the mark of chunks
pub no_mark : ◌≢◌ {A = ℕ} 239 33
no_mark e = omega (arith, e)

-- a source with the first byte of a byte order mark is no item
no_item : (f g : Filing) (run : Option (RunOf Text)) (source s : Text) (x : Item) → IsItem Second false run source x → run ≡ None → source ≡ 239 ∷ s → Ok g ≡ taken Second false f x → ⊥
no_item f g run source s x Empty is begins e = cc
no_item f g run source s x (DoItRead {b} some spells none) is begins e = no_doit s b (subst (λ (y : Text). SpellsDoIt Second y b) begins spells)
no_item f g run source s x (ReplacementRead {b} some spells states other) is begins e = no_doit s b (subst (λ (y : Text). SpellsDoIt Second y b) begins spells)
no_item f g run source s x (ReplacementFault some spells states wrong) is begins e = cc
no_item f g run source s x (DoItFault some wrong) is begins e = cc
no_item f g run source s x (MethodRead some spells) is begins e = cc
no_item f g run source s x (MethodFault some wrong) is begins e = cc

-- and no chunk begins with it
no_chunk : (f g : Filing) (p : Piece) (t : Text) → f.run ≡ None → Takes Second false f p (Ok g) → p.body ≡ 239 ∷ t → ⊥
no_chunk f g p t none a begins =
    let source = doubled_first 239 no_mark a.source t (a.is_source ∙ ap drop_blanks begins) in
    no_item f g f.run a.source source.0 a.item a.is_item none source.1 a.result

-- a body begins as its text
pub body_begins : (n : ℕ) → n ≢ 33 → (body s rest : Text) → n ∷ s ≡ body ++ 33 ∷ rest → (t : Text) × (body ≡ n ∷ t)
body_begins n mark [] s rest e = let same : n ≡ 33 = cc in absurd (mark same)
body_begins n mark (x ∷ t) s rest e = let same : x ≡ n = cc in (t, ap (λ y. y ∷ t) same)

-- nor does a text
no_text : (f g : Filing) (left : Left) (s : Text) (ps : List Piece) (end : Option NoEnd) → f.run ≡ None → left.rest ≡ 239 ∷ s → HasChunks left ps end → TakesAll Second false f ps end (Ok g) → ⊥
no_text f g left s ps end none begins (chunks.Over over) Over = omega (arith, sym (ap blank_len begins) ∙ over.1 ∙ ap length begins)
no_text f g left s ps end none begins (First {new} {p} t h) (Taken {g = m} a rest) =
    let body = body_begins 239 no_mark p.body s new.rest (sym begins ∙ t.cut.whole) in no_chunk f m p body.0 none a body.1
no_text f g _ s _ _ none begins (chunks.Refused {left = left} {e = e} cut) x = elim x [ ]

-- a text that begins otherwise has no byte order mark
pub unmarked : (text : Text) → ((s : Text) → text ≡ 239 ∷ s → ⊥) → imported.without_mark text ≡ text
unmarked [] h = refl
unmarked (x ∷ s) h = by (nat_eq 239 x) refl
  where
    by : (b : Bool) → nat_eq 239 x ≡ b → imported.without_mark (x ∷ s) ≡ x ∷ s
    by false e = ap (λ b. if b && pointwise nat_eq (187 ∷ 191 ∷ []) (take 2 s) then drop 3 (x ∷ s) else x ∷ s) e
    by true e = absurd (h s (ap (λ n. n ∷ s) (sym (eqb-true 239 x e))))

-- the whole text stays
pub text_stays : (i : ImageOf Text) (text : Text) (g : Filing) → ReadsText Second false i text (Ok g) → imported.IsImported text (Ok text)
text_stays i text g reads =
    let same = unmarked text (λ s e. no_text (begun i) g (start_of text) s reads.pieces reads.end refl e reads.chunks reads.takes) in
    subst (λ (t : Text). imported.Becomes Outside (start_of t) (Ok text)) (sym same) (all_stay (begun i) g (start_of text) reads.pieces reads.end reads.chunks reads.takes)
