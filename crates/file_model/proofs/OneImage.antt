-- A file-out has one image or one first refusal.
use Rattle.std.proofs.Common.{◌≡◌, ◌⊎◌, inl, inr, Bool, true, false, List, [], ◌∷◌, Option, Some, None, Result, Ok, Err, refl, sym, ap, subst, ◌∙◌}
use Rattle.std.specs.List.{AllByRecursion}
use Rattle.token_model.specs.declared.kind.Dialect.{Dialect}
use Rattle.tree_model.specs.Tree.{SequenceOf, MethodOf}
use Rattle.rb_base.specs.Doubling.{IsPaired}
use Rattle.chunk_format.specs.Blank.{drop_blanks}
use Rattle.chunk_format.specs.Left.{Left, start_of}
use Rattle.chunk_format.specs.Chunks.{Piece, HasChunks, First, Over, Refused}
use Rattle.chunk_format.specs.declared.chunk_iter.Unended.{Unended as NoEnd}
use Rattle.chunk_format.proofs.Doubles.{source_of_paired, doubled_one}
use Rattle.chunk_format.proofs.Blanks.{IsPaired-drop_blanks}
use Rattle.chunk_format.proofs.Unique.{HasChunks-some, HasChunks-same}
use Rattle.grammar_model.specs.Whole.{DoIt, Method}
use Rattle.grammar_model.specs.Checks.{Fault}
use Rattle.grammar_model.specs.Spelling.{SpellsDoIt, SpellsMethod, HasFirstFault}
use Rattle.grammar_model.proofs.Texts.{doit_or_fault, no_fault_DoIt, one_SpellsDoIt, one_HasFirstFault, method_or_fault, no_fault_Method, one_SpellsMethod}
use Rattle.image_model.specs.Image.{ImageOf}
use Rattle.file_model.specs.Causes.{Cause, Refusal}
use Rattle.file_model.specs.Changes.{RunOf}
use Rattle.file_model.specs.Filing.{Text, Filing, begun, Item, Blank, DoItChunk, ReplacementChunk, MethodChunk, Faulty, taken}
use Rattle.file_model.specs.Forms.{Replacement, replacement_in}
use Rattle.file_model.specs.Places.{placed}
use Rattle.rb_base.specs.Names.{text_eq}
use Rattle.file_model.specs.Reading.{IsItem, Empty, DoItRead, ReplacementRead, ReplacementFault, DoItFault, MethodRead, MethodFault, Takes, refusal, no_end, TakesAll, Over as Ended, Cut, Taken, Refused as Stopped, ReadsText, no_image, IsKernelOf, IsImageOf, HasRefusal}

-- a chunk states one replacement
one_replacement : (d : Dialect) (source : Text) (b c : SequenceOf Text) (r q : Replacement) → SpellsDoIt d source b → SpellsDoIt d source c → replacement_in b ≡ Some r → replacement_in c ≡ Some q → r ≡ q
one_replacement d source b c r q s t o p = same (sym o ∙ ap replacement_in (one_SpellsDoIt d source b c s t) ∙ p)
  where
    same : Some r ≡ Some q → r ≡ q
    same e = cc

-- a chunk that states a replacement is none that states none
states_or_not : (d : Dialect) (source : Text) (b c : SequenceOf Text) (r : Replacement) → SpellsDoIt d source b → SpellsDoIt d source c → replacement_in b ≡ None → replacement_in c ≡ Some r → ⊥
states_or_not d source b c r s t o p = differ (sym o ∙ ap replacement_in (one_SpellsDoIt d source b c s t) ∙ p)
  where
    differ : ◌≡◌ {A = Option Replacement} None (Some r) → ⊥
    differ e = cc

module _ (d : Dialect) where
  -- the same source spells the same
  spells_other : (r q : Replacement) (c : SequenceOf Text) → r ≡ q → SpellsDoIt d r.source c → SpellsDoIt d q.source c
  spells_other r q c e u = subst (λ (z : Replacement). SpellsDoIt d z.source c) e u

  -- one replacement makes one chunk
  one_chunk : (r q : Replacement) (b c : SequenceOf Text) → r ≡ q → SpellsDoIt d r.source b → SpellsDoIt d q.source c → ReplacementChunk r b ≡ ReplacementChunk q c
  one_chunk r q b c e u v = λ j. ReplacementChunk (e j) (one_SpellsDoIt d q.source b c (spells_other r q b e u) v j)

  -- one replacement has one fault
  one_fault : (r q : Replacement) (f g : Fault) → r ≡ q → HasFirstFault d DoIt r.source f → HasFirstFault d DoIt q.source g → Faulty f ≡ Faulty g
  one_fault r q f g e u v = ap Faulty (one_HasFirstFault d DoIt q.source f g (subst (λ (z : Replacement). HasFirstFault d DoIt z.source f) e u) v)

-- a source is one thing
one_item : (d : Dialect) (kernel : Bool) (run : Option (RunOf Text)) (source : Text) (x y : Item) → IsItem d kernel run source x → IsItem d kernel run source y → x ≡ y
one_item d kernel run source x y Empty Empty = refl
one_item d kernel run source x y Empty (DoItRead n t p) = absurd (n refl)
one_item d kernel run source x y Empty (ReplacementRead {r = q} n t p v) = absurd (n refl)
one_item d kernel run source x y Empty (ReplacementFault {r = q} n t p v) = absurd (n refl)
one_item d kernel run source x y Empty (DoItFault n g) = absurd (n refl)
one_item d kernel run source x y (DoItRead n s o) Empty = absurd (n refl)
one_item d kernel run source x y (DoItRead n s o) (DoItRead m t p) = ap (DoItChunk source) (one_SpellsDoIt d source _ _ s t)
one_item d kernel run source x y (DoItRead n s o) (ReplacementRead {r = q} m t p v) = absurd (states_or_not d source _ _ q s t o p)
one_item d kernel run source x y (DoItRead n s o) (ReplacementFault {r = q} m t p v) = absurd (states_or_not d source _ _ q s t o p)
one_item d kernel run source x y (DoItRead n s o) (DoItFault m g) = absurd (no_fault_DoIt d source _ _ s g)
one_item d kernel run source x y (ReplacementRead {r = r} n s o u) Empty = absurd (n refl)
one_item d kernel run source x y (ReplacementRead {r = r} n s o u) (DoItRead m t p) = absurd (states_or_not d source _ _ r t s p o)
one_item d kernel run source x y (ReplacementRead {r = r} n s o u) (ReplacementRead {r = q} m t p v) = one_chunk d r q _ _ (one_replacement d source _ _ r q s t o p) u v
one_item d kernel run source x y (ReplacementRead {r = r} n s o u) (ReplacementFault {r = q} m t p v) = absurd (no_fault_DoIt d q.source _ _ (spells_other d r q _ (one_replacement d source _ _ r q s t o p) u) v)
one_item d kernel run source x y (ReplacementRead {r = r} n s o u) (DoItFault m g) = absurd (no_fault_DoIt d source _ _ s g)
one_item d kernel run source x y (ReplacementFault {r = r} n s o u) Empty = absurd (n refl)
one_item d kernel run source x y (ReplacementFault {r = r} n s o u) (DoItRead m t p) = absurd (states_or_not d source _ _ r t s p o)
one_item d kernel run source x y (ReplacementFault {r = r} n s o u) (ReplacementRead {r = q} m t p v) = absurd (no_fault_DoIt d r.source _ _ (spells_other d q r _ (one_replacement d source _ _ q r t s p o) v) u)
one_item d kernel run source x y (ReplacementFault {r = r} n s o u) (ReplacementFault {r = q} m t p v) = one_fault d r q _ _ (one_replacement d source _ _ r q s t o p) u v
one_item d kernel run source x y (ReplacementFault {r = r} n s o u) (DoItFault m g) = absurd (no_fault_DoIt d source _ _ s g)
one_item d kernel run source x y (DoItFault n f) Empty = absurd (n refl)
one_item d kernel run source x y (DoItFault n f) (DoItRead m t p) = absurd (no_fault_DoIt d source _ _ t f)
one_item d kernel run source x y (DoItFault n f) (ReplacementRead {r = q} m t p v) = absurd (no_fault_DoIt d source _ _ t f)
one_item d kernel run source x y (DoItFault n f) (ReplacementFault {r = q} m t p v) = absurd (no_fault_DoIt d source _ _ t f)
one_item d kernel run source x y (DoItFault n f) (DoItFault m g) = ap Faulty (one_HasFirstFault d DoIt source _ _ f g)
one_item d kernel run source x y Empty (MethodRead n s) = absurd (n refl)
one_item d kernel run source x y Empty (MethodFault n f) = absurd (n refl)
one_item d kernel run source x y (MethodRead n s) Empty = absurd (n refl)
one_item d kernel run source x y (MethodRead {run = r} n s) (MethodRead m t) = ap (MethodChunk r source) (one_SpellsMethod d kernel source _ _ s t)
one_item d kernel run source x y (MethodRead n s) (MethodFault m f) = absurd (no_fault_Method d kernel source _ _ s f)
one_item d kernel run source x y (MethodFault n f) Empty = absurd (n refl)
one_item d kernel run source x y (MethodFault n f) (MethodRead m s) = absurd (no_fault_Method d kernel source _ _ s f)
one_item d kernel run source x y (MethodFault n f) (MethodFault m g) = ap Faulty (one_HasFirstFault d (Method kernel) source _ _ f g)

-- a source is something
some_item : (d : Dialect) (kernel : Bool) (run : Option (RunOf Text)) (source : Text) → (x : Item) × IsItem d kernel run source x
some_item d kernel run [] = (Blank, Empty)
some_item d kernel None (b ∷ s) = by (doit_or_fault d (b ∷ s))
  where
    replacing : (tree : SequenceOf Text) (r : Replacement) → SpellsDoIt d (b ∷ s) tree → replacement_in tree ≡ Some r → ((c : SequenceOf Text) × SpellsDoIt d r.source c) ⊎ ((fault : Fault) × HasFirstFault d DoIt r.source fault) → (x : Item) × IsItem d kernel None (b ∷ s) x
    replacing tree r t states (inl read) = (ReplacementChunk r read.0, ReplacementRead (λ e. cc) t states read.1)
    replacing tree r t states (inr wrong) = (Faulty wrong.0, ReplacementFault (λ e. cc) t states wrong.1)

    doit : (tree : SequenceOf Text) (o : Option Replacement) → SpellsDoIt d (b ∷ s) tree → replacement_in tree ≡ o → (x : Item) × IsItem d kernel None (b ∷ s) x
    doit tree None t none = (DoItChunk (b ∷ s) tree, DoItRead (λ e. cc) t none)
    doit tree (Some r) t states = replacing tree r t states (doit_or_fault d r.source)

    by : ((tree : SequenceOf Text) × SpellsDoIt d (b ∷ s) tree) ⊎ ((fault : Fault) × HasFirstFault d DoIt (b ∷ s) fault) → (x : Item) × IsItem d kernel None (b ∷ s) x
    by (inl read) = doit read.0 (replacement_in read.0) read.1 refl
    by (inr wrong) = (Faulty wrong.0, DoItFault (λ e. cc) wrong.1)
some_item d kernel (Some run) (b ∷ s) = by (method_or_fault d kernel (b ∷ s))
  where
    by : ((tree : MethodOf Text) × SpellsMethod d kernel (b ∷ s) tree) ⊎ ((fault : Fault) × HasFirstFault d (Method kernel) (b ∷ s) fault) → (x : Item) × IsItem d kernel (Some run) (b ∷ s) x
    by (inl read) = (MethodChunk run (b ∷ s) read.0, MethodRead (λ e. cc) read.1)
    by (inr wrong) = (Faulty wrong.0, MethodFault (λ e. cc) wrong.1)

-- a chunk makes one thing
one_take : (d : Dialect) (kernel : Bool) (f : Filing) (p : Piece) (r q : Result Filing Cause) → Takes d kernel f p r → Takes d kernel f p q → r ≡ q
one_take d kernel f p r q a b =
    let same : a.source ≡ b.source = doubled_one 33 a.source b.source (a.is_source ∙ sym b.is_source) in
    let item : IsItem d kernel f.run b.source a.item = subst (λ (s : Text). IsItem d kernel f.run s a.item) same a.is_item in
    a.result ∙ ap (taken d kernel f) (one_item d kernel f.run b.source a.item b.item item b.is_item) ∙ sym b.result

-- a chunk makes something
some_take : (d : Dialect) (kernel : Bool) (f : Filing) (p : Piece) → IsPaired 33 p.body → (r : Result Filing Cause) × Takes d kernel f p r
some_take d kernel f p paired =
    let source = source_of_paired (drop_blanks p.body) (IsPaired-drop_blanks p.body paired) in
    let item = some_item d kernel f.run source.0 in
    (taken d kernel f item.0, record { source = source.0; item = item.0; is_source = source.1; is_item = item.1; result = refl })

-- chunks make one thing
one_takes : (d : Dialect) (kernel : Bool) (f : Filing) (ps : List Piece) (end : Option NoEnd) (r q : Result Filing Refusal) → TakesAll d kernel f ps end r → TakesAll d kernel f ps end q → r ≡ q
one_takes d kernel f ps end r q Ended Ended = refl
one_takes d kernel f ps end r q Cut Cut = refl
one_takes d kernel f ps end r q (Taken {g = g} {p = p} {ps = rest} {end = stop} a more) (Taken {g = h} b others) =
    let same : g ≡ h = ok_same (one_take d kernel f p (Ok g) (Ok h) a b) in
    one_takes d kernel h rest stop r q (subst (λ (i : Filing). TakesAll d kernel i rest stop r) same more) others
  where
    ok_same : {g h : Filing} → ◌≡◌ {A = Result Filing Cause} (Ok g) (Ok h) → g ≡ h
    ok_same e = cc
one_takes d kernel f ps end r q (Taken {g = g} {p = p} a more) (Stopped {cause = cause} b) = absurd (differ (one_take d kernel f p (Ok g) (Err cause) a b))
  where
    differ : {g : Filing} {cause : Cause} → ◌≡◌ {A = Result Filing Cause} (Ok g) (Err cause) → ⊥
    differ e = cc
one_takes d kernel f ps end r q (Stopped {p = p} {cause = cause} a) (Taken {g = g} b more) = absurd (differ (one_take d kernel f p (Err cause) (Ok g) a b))
  where
    differ : {g : Filing} {cause : Cause} → ◌≡◌ {A = Result Filing Cause} (Err cause) (Ok g) → ⊥
    differ e = cc
one_takes d kernel f ps end r q (Stopped {p = p} {cause = cause} a) (Stopped {cause = other} b) = ap (λ c. Err (refusal p c)) (err_same (one_take d kernel f p (Err cause) (Err other) a b))
  where
    err_same : {cause other : Cause} → ◌≡◌ {A = Result Filing Cause} (Err cause) (Err other) → cause ≡ other
    err_same e = cc

-- the bodies of chunks have their marks in pairs
paired_pieces : (left : Left) (ps : List Piece) (end : Option NoEnd) → HasChunks left ps end → AllByRecursion (λ (p : Piece). IsPaired 33 p.body) ps
paired_pieces left ps end (First t rest) = (t.cut.paired, paired_pieces _ _ _ rest)
paired_pieces left ps end (Over o) = tt
paired_pieces left ps end (Refused u) = tt

-- chunks make something
some_takes : (d : Dialect) (kernel : Bool) (f : Filing) (ps : List Piece) (end : Option NoEnd) → AllByRecursion (λ (p : Piece). IsPaired 33 p.body) ps → (r : Result Filing Refusal) × TakesAll d kernel f ps end r
some_takes d kernel f [] None paired = (Ok f, Ended)
some_takes d kernel f [] (Some e) paired = (Err (no_end e), Cut)
some_takes d kernel f (p ∷ ps) end paired = by (some_take d kernel f p paired.0) (λ g. some_takes d kernel g ps end paired.1)
  where
    by : ((r : Result Filing Cause) × Takes d kernel f p r) → ((g : Filing) → (r : Result Filing Refusal) × TakesAll d kernel g ps end r) → (r : Result Filing Refusal) × TakesAll d kernel f (p ∷ ps) end r
    by (Ok g, t) rest = ((rest g).0, Taken t (rest g).1)
    by (Err cause, t) rest = (Err (refusal p cause), Stopped t)

-- a text makes one thing
one_reading : (d : Dialect) (kernel : Bool) (i : ImageOf Text) (text : Text) (r q : Result Filing Refusal) → ReadsText d kernel i text r → ReadsText d kernel i text q → r ≡ q
one_reading d kernel i text r q a b =
    let same = HasChunks-same (start_of text) a.pieces b.pieces a.end b.end a.chunks b.chunks in
    let start : Filing = begun i in
    let moved : TakesAll d kernel start b.pieces a.end r = subst (λ (ps : List Piece). TakesAll d kernel start ps a.end r) same.0 a.takes in
    one_takes d kernel start b.pieces b.end r q (subst (λ (e : Option NoEnd). TakesAll d kernel start b.pieces e r) same.1 moved) b.takes

-- a text makes something
some_reading : (d : Dialect) (kernel : Bool) (i : ImageOf Text) (text : Text) → (r : Result Filing Refusal) × ReadsText d kernel i text r
some_reading d kernel i text =
    let chunks = HasChunks-some (start_of text) in
    let takes = some_takes d kernel (begun i) chunks.0 chunks.1 (paired_pieces (start_of text) chunks.0 chunks.1 chunks.2) in
    (takes.0, record { pieces = chunks.0; end = chunks.1; chunks = chunks.2; takes = takes.1 })

-- two results that are equal are so in what they hold
ok_image : {f g : Filing} → ◌≡◌ {A = Result Filing Refusal} (Ok f) (Ok g) → f ≡ g
ok_image e = cc

err_refusal : {r q : Refusal} → ◌≡◌ {A = Result Filing Refusal} (Err r) (Err q) → r ≡ q
err_refusal e = cc

ok_is_no_err : {f : Filing} {r : Refusal} → ◌≡◌ {A = Result Filing Refusal} (Ok f) (Err r) → ⊥
ok_is_no_err e = cc

-- the text of the kernel makes one image
pub one_kernel : (d : Dialect) (prelude : Text) (i j : ImageOf Text) → IsKernelOf d prelude i → IsKernelOf d prelude j → i ≡ j
one_kernel d prelude i j a b =
    a.image ∙ ap (λ (f : Filing). f.image) (ok_image (one_reading d true no_image prelude (Ok a.end) (Ok b.end) a.reads b.reads)) ∙ sym b.image

-- a file-out has one image
pub one_image : (d : Dialect) (prelude text : Text) (i j : ImageOf Text) → IsImageOf d prelude text i → IsImageOf d prelude text j → i ≡ j
one_image d prelude text i j a b =
    let same : a.kernel ≡ b.kernel = one_kernel d prelude a.kernel b.kernel a.is_kernel b.is_kernel in
    let moved : ReadsText d false b.kernel text (Ok a.end) = subst (λ (k : ImageOf Text). ReadsText d false k text (Ok a.end)) same a.reads in
    a.image ∙ ap (λ (f : Filing). placed text_eq f.places f.image) (ok_image (one_reading d false b.kernel text (Ok a.end) (Ok b.end) moved b.reads)) ∙ sym b.image

-- a file-out has one first refusal
pub one_refusal : (d : Dialect) (prelude text : Text) (r q : Refusal) → HasRefusal d prelude text r → HasRefusal d prelude text q → r ≡ q
one_refusal d prelude text r q a b =
    let same : a.kernel ≡ b.kernel = one_kernel d prelude a.kernel b.kernel a.is_kernel b.is_kernel in
    let moved : ReadsText d false b.kernel text (Err r) = subst (λ (k : ImageOf Text). ReadsText d false k text (Err r)) same a.reads in
    err_refusal (one_reading d false b.kernel text (Err r) (Err q) moved b.reads)

-- a file-out has no image where it is refused
pub no_image_where_refused : (d : Dialect) (prelude text : Text) (i : ImageOf Text) (r : Refusal) → IsImageOf d prelude text i → ¬ HasRefusal d prelude text r
no_image_where_refused d prelude text i r a b =
    let same : a.kernel ≡ b.kernel = one_kernel d prelude a.kernel b.kernel a.is_kernel b.is_kernel in
    let moved : ReadsText d false b.kernel text (Ok a.end) = subst (λ (k : ImageOf Text). ReadsText d false k text (Ok a.end)) same a.reads in
    ok_is_no_err (one_reading d false b.kernel text (Ok a.end) (Err r) moved b.reads)

-- behind a kernel, a file-out has an image or is refused
pub image_or_refusal : (d : Dialect) (prelude text : Text) (kernel : ImageOf Text) → IsKernelOf d prelude kernel
    → ((i : ImageOf Text) × IsImageOf d prelude text i) ⊎ ((r : Refusal) × HasRefusal d prelude text r)
image_or_refusal d prelude text kernel k = by (some_reading d false kernel text)
  where
    by : ((r : Result Filing Refusal) × ReadsText d false kernel text r) → ((i : ImageOf Text) × IsImageOf d prelude text i) ⊎ ((r : Refusal) × HasRefusal d prelude text r)
    by (Ok f, t) = inl (placed text_eq f.places f.image, record { kernel = kernel; is_kernel = k; end = f; reads = t; image = refl })
    by (Err r, t) = inr (r, record { kernel = kernel; is_kernel = k; reads = t })
