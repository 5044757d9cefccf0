-- Images in which laws of rewriting are applied come, once names are resolved, from each other by edits.
use Rattle.std.proofs.Common.{◌≡◌, ℕ, List, [], ◌∷◌, length, Option, Some, None, refl, sym, ap, ◌∙◌, subst}
use Rattle.std.specs.Prelude.{Bool, true, false, map, find, option_map}
use Rattle.std.specs.List.{AllZip}
use Rattle.rb_base.specs.Names.{text_eq}
use Rattle.tree_model.specs.Tree.{Notes, StatementsOf, SequenceOf}
use Rattle.image_model.specs.Image.{ClassOf, EntryOf, DoItOf, ImageOf}
use Rattle.image_model.specs.Words.{text_words}
use Rattle.image_model.specs.Chain.{chain}
use Rattle.image_model.specs.Means.{MeaningOf, means_along}
use Rattle.run_model.specs.Values.{Name}
use Rattle.run_model.specs.Renamings.{no_renaming}
use Rattle.run_model.specs.Matched.{AreMatched}
use Rattle.resolved_model.specs.Resolving.{resolved_doit}
use Rattle.resolved_model.specs.ResolvedImages.{by_code, ResolvedImage, plain_class, doing_of, resolved_entry, resolved_image}
use Rattle.resolved_model.specs.Environments.{opened, code_in}
use Rattle.resolved_model.proofs.ResolvingLemmas.{method-resolved, doit-resolved}
use Rattle.certified_laws.specs.EditedTrees.{EditedCode, code_at}
use Rattle.certified_laws.specs.EditedImages.{EditedDoing, still_primitive, edited_code, EditedMethod, EditedImage, doing_at, method_at, image_at, AreEdited}
use Rattle.certified_laws.specs.RewrittenTrees.{LinesRewritten, method_with, doit_with, MethodRewritten, DoItRewritten, ImageRewritten, RewrittenAlong}
use Rattle.certified_laws.proofs.RewrittenSides.{lines-sides}

-- what names mean outside all scopes, by the classes
abbrev outside : List (ClassOf Name) → Option Name → Bool → Name → MeaningOf Name
outside cs c meta n = means_along text_words cs (chain text_eq cs c) meta n

-- the class of do-its, by the classes
abbrev doits_in : List (ClassOf Name) → Option Name
doits_in cs = option_map (λ (c : ClassOf Name). c.name) (find (λ c. text_words.is_undefined_object c.name) cs)

-- edited code whose sides are two sequences with the same parameters and temporaries
abbrev CodeSides : (Name → MeaningOf Name) → List Name → SequenceOf Name → SequenceOf Name → Type 0
CodeSides g ps b c = (x : EditedCode) × (code_at true x ≡ code_in g [] ps b) × (code_at false x ≡ code_in g [] ps c)

code-sides : (g : Name → MeaningOf Name) (ps : List Name) (b : SequenceOf Name) (ss : StatementsOf Name) (tail : Notes) → LinesRewritten b.statements ss → CodeSides g ps b (record { temporaries = b.temporaries; statements = ss; tail = tail })
code-sides g ps b ss tail h =
    let a = lines-sides g (opened ps b.temporaries []) h in (
      record { parameters = length ps; temporaries = length b.temporaries; statements = a.0 },
      (λ at. record { parameters = length ps; temporaries = length b.temporaries; statements = a.1 at }),
      (λ at. record { parameters = length ps; temporaries = length b.temporaries; statements = a.2 at }),
    )

module _ (i j : ImageOf Name) (same : j.classes ≡ i.classes) where
  -- a method of the one image and of the other
  abbrev EntrySides : EntryOf Name → EntryOf Name → Type 0
  EntrySides m m' = (x : EditedMethod) × (method_at true x ≡ resolved_entry i m) × (method_at false x ≡ resolved_entry j m')

  -- by its primitive
  entry-by : (m : EntryOf Name) (source : List ℕ) (head : Notes) (ss : StatementsOf Name) (tail : Notes) → LinesRewritten m.tree.body.statements ss → (o : Option ℕ) →
      (x : EditedDoing) × (doing_at true x ≡ doing_of i m o) × (doing_at false x ≡ doing_of j (method_with m source head ss tail) o)
  entry-by m source head ss tail h (Some n) = (still_primitive n, refl, refl)
  entry-by m source head ss tail h None =
      let a = code-sides (outside i.classes m.class m.meta) m.tree.arguments m.tree.body ss tail h in (
        edited_code a.0,
        ap by_code (a.1 ∙ sym (method-resolved i m)),
        ap by_code (a.2 ∙ ap (λ cs. code_in (outside cs m.class m.meta) [] m.tree.arguments (record { temporaries = m.tree.body.temporaries; statements = ss; tail = tail })) (sym same) ∙ sym (method-resolved j (method_with m source head ss tail))),
      )

  entry-sides : (m m' : EntryOf Name) → MethodRewritten m m' → EntrySides m m'
  entry-sides m m' (source, head, ss, tail, e, h) =
      let a = entry-by m source head ss tail h m.tree.primitive in
      let x : EditedMethod = record { class = m.class; meta = m.meta; selector = m.tree.selector; doing = a.0 } in (
        x,
        ap (λ d. record { class = m.class; meta = m.meta; selector = m.tree.selector; doing = d }) a.1,
        subst (λ y. method_at false x ≡ resolved_entry j y) (sym e) (ap (λ d. record { class = m.class; meta = m.meta; selector = m.tree.selector; doing = d }) a.2),
      )

  -- methods in order
  entries-sides : (ms ms' : List (EntryOf Name)) → AllZip MethodRewritten ms ms' → (xs : List EditedMethod) × (map (method_at true) xs ≡ map (resolved_entry i) ms) × (map (method_at false) xs ≡ map (resolved_entry j) ms')
  entries-sides [] [] z = ([], refl, refl)
  entries-sides [] (m' ∷ ms') z = absurd z
  entries-sides (m ∷ ms) [] z = absurd z
  entries-sides (m ∷ ms) (m' ∷ ms') z =
      let a = entry-sides m m' z.0 in
      let b = entries-sides ms ms' z.1 in
      (a.0 ∷ b.0, (λ at. a.1 at ∷ b.1 at), (λ at. a.2 at ∷ b.2 at))

  -- a do-it
  doit-sides : (d d' : DoItOf Name) → DoItRewritten d d' → (x : EditedCode) × (code_at true x ≡ resolved_doit i d) × (code_at false x ≡ resolved_doit j d')
  doit-sides d d' (source, ss, tail, e, h) =
      let a = code-sides (outside i.classes (doits_in i.classes) false) [] d.body ss tail h in (
        a.0,
        a.1 ∙ sym (doit-resolved i d),
        subst (λ y. code_at false a.0 ≡ resolved_doit j y) (sym e)
            (a.2 ∙ ap (λ cs. code_in (outside cs (doits_in cs) false) [] [] (record { temporaries = d.body.temporaries; statements = ss; tail = tail })) (sym same) ∙ sym (doit-resolved j (doit_with d source ss tail))),
      )

  -- do-its in order
  doits-sides : (ds ds' : List (DoItOf Name)) → AllZip DoItRewritten ds ds' → (xs : List EditedCode) × (map (code_at true) xs ≡ map (resolved_doit i) ds) × (map (code_at false) xs ≡ map (resolved_doit j) ds')
  doits-sides [] [] z = ([], refl, refl)
  doits-sides [] (d' ∷ ds') z = absurd z
  doits-sides (d ∷ ds) [] z = absurd z
  doits-sides (d ∷ ds) (d' ∷ ds') z =
      let a = doit-sides d d' z.0 in
      let b = doits-sides ds ds' z.1 in
      (a.0 ∷ b.0, (λ at. a.1 at ∷ b.1 at), (λ at. a.2 at ∷ b.2 at))

-- the edited image whose sides are two images
image-sides : (i j : ImageOf Name) → ImageRewritten i j → (x : EditedImage) × (image_at true x ≡ resolved_image i) × (image_at false x ≡ resolved_image j)
image-sides i j h =
    let a = entries-sides i j h.classes i.methods j.methods h.methods in
    let b = doits-sides i j h.classes i.doits j.doits h.doits in (
      record { classes = map plain_class i.classes; methods = a.0; doits = b.0 },
      (λ at. record { classes = map plain_class i.classes; methods = a.1 at; doits = b.1 at }),
      (λ at. record { classes = map plain_class (sym h.classes at); methods = a.2 at; doits = b.2 at }),
    )

-- a row of them
along-edited : (i : ImageOf Name) (ks : List (ImageOf Name)) (j : ImageOf Name) → RewrittenAlong i ks j → (r : ResolvedImage) → r ≡ resolved_image i → (xs : List EditedImage) × AreEdited r xs (resolved_image j)
along-edited i [] j h r e =
    let a = image-sides i j h in
    (a.0 ∷ [], (a.1 ∙ sym e, sym a.2))
along-edited i (k ∷ ks) j h r e =
    let a = image-sides i k h.0 in
    let b = along-edited k ks j h.1 (image_at false a.0) a.2 in
    (a.0 ∷ b.0, (a.1 ∙ sym e, b.1))

pub rewritten-matched : ((i j : ImageOf Name) (xs : List EditedImage) → AreEdited (resolved_image i) xs (resolved_image j) → AreMatched i j no_renaming) →
    (i : ImageOf Name) (ks : List (ImageOf Name)) (j : ImageOf Name) → RewrittenAlong i ks j → AreMatched i j no_renaming
rewritten-matched edited i ks j h =
    let a = along-edited i ks j h (resolved_image i) refl in
    edited i j a.0 a.1
