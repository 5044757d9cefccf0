-- A kernel of `Object` alone is all that the laws ask of one.
use Rattle.std.proofs.Common.{◌≡◌, ◌≢◌, zero, suc, true, false, [], ◌∷◌, ◌++◌, Option, Some, None, Ok, refl, ap, ◌∙◌, arith, append_assoc}
use Rattle.rb_base.specs.Doubling.{doubled}
use Rattle.token_model.specs.declared.kind.Dialect.TheVariants.{Second}
use Rattle.chunk_format.specs.Left.{start_of}
use Rattle.chunk_format.specs.Chunks.{HasChunks, First, Over as NoChunk, written_piece}
use Rattle.chunk_format.proofs.Unique.{Takes-written}
use Rattle.chunk_format.proofs.Blanks.{IsPaired-IsBlank}
use Rattle.scope_model.specs.SpecialNames.{is_pseudo_variable}
use Rattle.image_model.specs.Image.{ClassOf}
use Rattle.image_model.specs.Words.{text_words}
use Rattle.image_model.specs.Valid.{HasNoRepeat, SuperclassesStandBefore, IsValid}
use Rattle.file_model.specs.Filing.{Text, Filing, begun, DoItChunk, taken}
use Rattle.file_model.specs.Places.{no_places}
use Rattle.file_model.specs.Written.{definition_text}
use Rattle.file_model.specs.Fileable.{reading_of}
use Rattle.file_model.specs.Reading.{DoItRead, TakesAll, Over, Taken, no_image, IsKernelOf}
use Rattle.file_rereading.specs.Rereading.{IsBeginning}
use Rattle.file_rereading.specs.Trees.{definition_tree}
use Rattle.file_rereading.specs.Least.{object, object_alone, least_prelude}
use Rattle.file_rereading.proofs.Readings.{written_source}
use Rattle.file_rereading.proofs.Definitions.{spells_definition}

-- what its text is read as
read : Filing
read = record { image = object_alone; run = None; at_head = false; places = no_places }

-- the text makes the image
pub least_is_kernel : IsKernelOf Second least_prelude object_alone
unfolding read is_pseudo_variable
least_is_kernel =
    let source = definition_text object in
    let whole : least_prelude ≡ doubled 33 source ++ 33 ∷ 10 ∷ 10 ∷ [] = append_assoc (doubled 33 source) (33 ∷ []) (10 ∷ 10 ∷ []) in
    let some : source ≢ [] = λ e. cc in
    let chunks : HasChunks (start_of least_prelude) (written_piece (start_of least_prelude) [] source ∷ []) None =
    First (Takes-written (start_of least_prelude) [] source (10 ∷ 10 ∷ []) refl (λ e. omega arith) whole) (NoChunk (IsPaired-IsBlank (10 ∷ 10 ∷ []) refl, refl)) in
    let result : Ok read ≡ taken Second true (begun no_image) (DoItChunk source (definition_tree object)) = refl in
    let takes : TakesAll Second true (begun no_image) (written_piece (start_of least_prelude) [] source ∷ []) None (Ok read) =
    Taken (record { source = source; item = DoItChunk source (definition_tree object); is_source = written_source [] source refl refl; is_item = DoItRead some (spells_definition object refl refl) refl; result = result }) Over in
    record { end = read; reads = record { pieces = written_piece (start_of least_prelude) [] source ∷ []; end = None; chunks = chunks; takes = takes }; image = refl }

-- nothing stands twice where nothing stands, or one thing
none_twice : {X : Type 0} → HasNoRepeat {X = X} []
none_twice j k x a b = absurd (cc)

one_once : {X : Type 0} (x : X) → HasNoRepeat (x ∷ [])
one_once x zero zero y a b = refl
one_once x zero (suc k) y a b = absurd (cc)
one_once x (suc j) k y a b = absurd (cc)

-- a class without a superclass stands behind none
before : SuperclassesStandBefore (object ∷ [])
before zero c n at super =
    let same : object ≡ c = cc in
    let top : ◌≡◌ {A = Option Text} None (Some n) = ap (λ (x : ClassOf Text). x.superclass) same ∙ super in
    absurd (cc)
before (suc k) c n at super = absurd (cc)

-- the image is valid
pub least_is_valid : IsValid text_words (reading_of Second object_alone) object_alone
unfolding is_pseudo_variable
least_is_valid = record {
  class_names_distinct = one_once object.name;
  superclasses_before = before;
  only_object_is_root = (((λ h. refl), (λ h. refl)), tt);
  names_may_be_given = (record { name = refl; instance = tt; class_side = tt; shared = tt }, tt);
  instance_variables_once = (none_twice, tt);
  class_side_variables_once = (none_twice, tt);
  class_variables_once = (none_twice, tt);
  methods_once = none_twice;
  method_classes_there = tt;
  user_methods = tt;
  doits = tt;
  kernel_classes = refl;
  kernel_methods = refl;
}

-- images begin with it
pub least_is_beginning : IsBeginning object_alone
least_is_beginning = record { root = refl; no_doits = refl }
