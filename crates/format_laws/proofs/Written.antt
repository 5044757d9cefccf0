-- What stays where sources are written anew.
use Rattle.std.proofs.Common.{◌≡◌, List, [], ◌∷◌, ◌++◌, length, refl, sym, ap, ◌∙◌}
use Rattle.std.specs.Prelude.{Bool, true, false, not, cond, if◌then◌else◌, map, filter}
use Rattle.std.specs.List.{AllByRecursion}
use Rattle.std.proofs.lemmas.List.{map-append}
use Rattle.image_model.specs.Image.{EntryOf, DoItOf, ImageOf, plus}
use Rattle.image_model.specs.Valid.{signature}
use Rattle.text_model.specs.Whole.{canonical_method}
use Rattle.file_model.specs.Filing.{Text}
use Rattle.bare_model.specs.BareImages.{bare_entry, bare_doit, bare_image}
use Rattle.canonical_image.specs.Formatted.{formatted_entry, formatted_doit, formatted}
use Rattle.file_rereading.specs.Rereading.{with_heads}

-- lists
pub map-kept : {X Y Z : Type 0} (f : X → Y) (g : Y → Z) (h : X → Z) → ((x : X) → g (f x) ≡ h x) → (xs : List X) → map g (map f xs) ≡ map h xs
map-kept f g h e [] = refl
map-kept f g h e (x ∷ xs) = λ i. e x i ∷ map-kept f g h e xs i

all-mapped : {X Y : Type 0} (P : Y → Type 0) (f : X → Y) (xs : List X) → AllByRecursion (λ x. P (f x)) xs → AllByRecursion P (map f xs)
all-mapped P f [] a = tt
all-mapped P f (x ∷ xs) a = (a.0, all-mapped P f xs a.1)

pub all-written : {X Y : Type 0} (P : X → Type 0) (Q : Y → Type 0) (f : X → Y) → ((x : X) → P x → Q (f x)) → (xs : List X) → AllByRecursion P xs → AllByRecursion Q (map f xs)
all-written P Q f h [] a = tt
all-written P Q f h (x ∷ xs) a = (h x a.0, all-written P Q f h xs a.1)

pub length-kept : {X Y : Type 0} (f : X → Y) (xs : List X) → length (map f xs) ≡ length xs
length-kept f [] = refl
length-kept f (x ∷ xs) = simp (length-kept f xs) refl

-- a method that is written anew once more stays
entry-twice : (m : EntryOf Text) → formatted_entry (formatted_entry m) ≡ formatted_entry m
entry-twice m = λ i. record m { source = by m.kernel i }
  where
    by : (b : Bool) → (if b then (if b then m.source else canonical_method m.tree) else canonical_method m.tree) ≡ (if b then m.source else canonical_method m.tree)
    by true = refl
    by false = refl

pub entries-twice : (ms : List (EntryOf Text)) → map formatted_entry (map formatted_entry ms) ≡ map formatted_entry ms
entries-twice ms = map-kept formatted_entry formatted_entry formatted_entry entry-twice ms

pub doits-twice : (ds : List (DoItOf Text)) → map formatted_doit (map formatted_doit ds) ≡ map formatted_doit ds
doits-twice ds = map-kept formatted_doit formatted_doit formatted_doit (λ d. refl) ds

pub twice : (i : ImageOf Text) → formatted (formatted i) ≡ formatted i
twice i = λ k. record i { methods = entries-twice i.methods k; doits = doits-twice i.doits k }

-- also with the do-its at its head counted anew
pub heads-twice : (i : ImageOf Text) → formatted (with_heads (formatted i)) ≡ with_heads (formatted i)
heads-twice i = λ k. record (with_heads (formatted i)) { methods = entries-twice i.methods k; doits = doits-twice i.doits k }

-- nothing but sources is another
pub bare-same : (i : ImageOf Text) → bare_image (formatted i) ≡ bare_image i
bare-same i = λ k. record (bare_image i) { methods = map-kept formatted_entry bare_entry bare_entry (λ m. refl) i.methods k; doits = map-kept formatted_doit bare_doit bare_doit (λ d. refl) i.doits k }

pub bare-heads : (i : ImageOf Text) → bare_image (with_heads (formatted i)) ≡ bare_image i
bare-heads i = bare-same i

-- also with one more do-it
pub bare-further : (i : ImageOf Text) (e : DoItOf Text) → bare_image (plus (formatted i) e) ≡ bare_image (plus i e)
bare-further i e = λ k. record (bare_image i) {
  methods = map-kept formatted_entry bare_entry bare_entry (λ m. refl) i.methods k;
  doits =
      (map-append bare_doit (map formatted_doit i.doits) (e ∷ []) ∙ ap (λ (ds : List (DoItOf Text)). ds ++ bare_doit e ∷ []) (map-kept formatted_doit bare_doit bare_doit (λ d. refl) i.doits) ∙ sym (map-append bare_doit i.doits (e ∷ []))) k;
}

pub signatures-same : (ms : List (EntryOf Text)) → map signature (map formatted_entry ms) ≡ map signature ms
signatures-same ms = map-kept formatted_entry signature signature (λ m. refl) ms

-- a method of the kernel stays
entry-kept : (m : EntryOf Text) → m.kernel ≡ true → formatted_entry m ≡ m
entry-kept m e = λ i. record m { source = ap (λ b. if b then m.source else canonical_method m.tree) e i }

abbrev Entries : Type 0
Entries = List (EntryOf Text)

-- one method before others
kept-one : (m : EntryOf Text) (written others : Entries) → written ≡ others → (b : Bool) → m.kernel ≡ b → cond b (formatted_entry m ∷ written) written ≡ cond b (m ∷ others) others
kept-one m written others h true e = λ i. entry-kept m e i ∷ h i
kept-one m written others h false e = h

pub kernel-kept : (ms : Entries) → filter (λ (m : EntryOf Text). m.kernel) (map formatted_entry ms) ≡ filter (λ (m : EntryOf Text). m.kernel) ms
kernel-kept [] = refl
kernel-kept (m ∷ ms) = kept-one m (filter (λ (x : EntryOf Text). x.kernel) (map formatted_entry ms)) (filter (λ (x : EntryOf Text). x.kernel) ms) (kernel-kept ms) m.kernel refl

written-one : (m : EntryOf Text) (written others : Entries) → written ≡ map formatted_entry others → (b : Bool) → cond b (formatted_entry m ∷ written) written ≡ map formatted_entry (cond b (m ∷ others) others)
written-one m written others h true = ap (λ (xs : Entries). formatted_entry m ∷ xs) h
written-one m written others h false = h

pub users-written : (ms : Entries) → filter (λ (m : EntryOf Text). not m.kernel) (map formatted_entry ms) ≡ map formatted_entry (filter (λ (m : EntryOf Text). not m.kernel) ms)
users-written [] = refl
users-written (m ∷ ms) = written-one m (filter (λ (x : EntryOf Text). not x.kernel) (map formatted_entry ms)) (filter (λ (x : EntryOf Text). not x.kernel) ms) (users-written ms) (not m.kernel)

-- those that are the kernel's are all kept
whole-one : (m : EntryOf Text) (others : Entries) → map formatted_entry others ≡ others → (b : Bool) → m.kernel ≡ b → map formatted_entry (cond b (m ∷ others) others) ≡ cond b (m ∷ others) others
whole-one m others h true e = λ i. entry-kept m e i ∷ h i
whole-one m others h false e = h

all-kernel : (ms : Entries) → map formatted_entry (filter (λ (m : EntryOf Text). m.kernel) ms) ≡ filter (λ (m : EntryOf Text). m.kernel) ms
all-kernel [] = refl
all-kernel (m ∷ ms) = whole-one m (filter (λ (x : EntryOf Text). x.kernel) ms) (all-kernel ms) m.kernel refl

-- the methods of the kernel in front stay in front
pub front-kept : (ms kernel : List (EntryOf Text)) → filter (λ (m : EntryOf Text). m.kernel) ms ≡ kernel → ms ≡ kernel ++ filter (λ (m : EntryOf Text). not m.kernel) ms →
    map formatted_entry ms ≡ kernel ++ filter (λ (m : EntryOf Text). not m.kernel) (map formatted_entry ms)
front-kept ms kernel own first =
    ap (map formatted_entry) first ∙ map-append formatted_entry kernel (filter (λ (m : EntryOf Text). not m.kernel) ms)
    ∙ (λ i. (ap (map formatted_entry) (sym own) ∙ all-kernel ms ∙ own) i ++ sym (users-written ms) i)
