-- Laws of the change of names in images.
use Rattle.std.proofs.Common.{◌≡◌, List, [], ◌∷◌, map, Option, Some, None, option_map, refl}
use Rattle.std.proofs.lemmas.List.{map-id}
use Rattle.std.proofs.lemmas.Simd.{map-map}
use Rattle.tree_model.proofs.MapNames.{map_sequence-id, map_method-id, map_sequence-map_sequence, map_method-map_method}
use Rattle.tree_model.proofs.AllNamesLemmas.{map_sequence-same, map_method-same, SequenceNames-implies, MethodNames-implies, SequenceNames-map_sequence, MethodNames-map_method}
use Rattle.image_model.specs.Image.{ClassOf, EntryOf, DoItOf, ImageOf, map_class, map_entry, map_doit, map_image}
use Rattle.image_model.specs.ImageNames.{OptionNames, ClassNames, EntryNames, DoItNames, ImageNames}
use Rattle.image_model.proofs.Lists.{all-implies, all-map, map-all, option-implies, option-same, option_map-option_map}

option_map-id : {N : Type 0} (o : Option N) → option_map (λ n. n) o ≡ o
option_map-id None = refl
option_map-id (Some n) = refl

map_class-id : {N : Type 0} (c : ClassOf N) → map_class (λ n. n) c ≡ c
map_class-id c =
    λ i. record c { superclass = option_map-id c.superclass i; instance = map-id c.instance i; shared = map-id c.shared i; class_side = map-id c.class_side i }

map_entry-id : {N : Type 0} (m : EntryOf N) → map_entry (λ n. n) m ≡ m
map_entry-id m = λ i. record m { class = option_map-id m.class i; tree = map_method-id m.tree i }

map_doit-id : {N : Type 0} (d : DoItOf N) → map_doit (λ n. n) d ≡ d
map_doit-id d = λ i. record d { body = map_sequence-id d.body i }

-- a map by a function that changes nothing
map-as_is : {X : Type 0} (f : X → X) → ((x : X) → f x ≡ x) → (xs : List X) → map f xs ≡ xs
map-as_is f h [] = refl
map-as_is f h (x ∷ xs) = λ i. h x i ∷ map-as_is f h xs i

-- no name of an image is changed
pub map_image-id : {N : Type 0} (i : ImageOf N) → map_image (λ n. n) i ≡ i
map_image-id image =
    λ i. record image {
      classes = map-as_is (map_class (λ n. n)) map_class-id image.classes i;
      methods = map-as_is (map_entry (λ n. n)) map_entry-id image.methods i;
      doits = map-as_is (map_doit (λ n. n)) map_doit-id image.doits i;
    }

-- two maps that make one
map-twice : {X Y Z : Type 0} (g : Y → Z) (f : X → Y) (h : X → Z) → ((x : X) → g (f x) ≡ h x) → (xs : List X) → map g (map f xs) ≡ map h xs
map-twice g f h e [] = refl
map-twice g f h e (x ∷ xs) = λ i. e x i ∷ map-twice g f h e xs i

module _ {K M N : Type 0} (g : M → N) (f : K → M) where
  map_class-map_class : (c : ClassOf K) → map_class g (map_class f c) ≡ map_class (λ n. g (f n)) c
  map_class-map_class c = λ i. record {
    name = g (f c.name);
    superclass = option_map-option_map g f c.superclass i;
    instance = map-map g f c.instance i;
    shared = map-map g f c.shared i;
    class_side = map-map g f c.class_side i;
    category = c.category;
    comment = c.comment;
    kernel = c.kernel;
  }

  map_entry-map_entry : (m : EntryOf K) → map_entry g (map_entry f m) ≡ map_entry (λ n. g (f n)) m
  map_entry-map_entry m = λ i. record {
    class = option_map-option_map g f m.class i;
    meta = m.meta;
    protocol = m.protocol;
    source = m.source;
    tree = map_method-map_method g f m.tree i;
    kernel = m.kernel;
  }

  map_doit-map_doit : (d : DoItOf K) → map_doit g (map_doit f d) ≡ map_doit (λ n. g (f n)) d
  map_doit-map_doit d = λ i. record { source = d.source; body = map_sequence-map_sequence g f d.body i }

  -- the names of an image are changed twice
  pub map_image-map_image : (i : ImageOf K) → map_image g (map_image f i) ≡ map_image (λ n. g (f n)) i
  map_image-map_image image = λ i. record {
    classes = map-twice (map_class g) (map_class f) (map_class (λ n. g (f n))) map_class-map_class image.classes i;
    methods = map-twice (map_entry g) (map_entry f) (map_entry (λ n. g (f n))) map_entry-map_entry image.methods i;
    doits = map-twice (map_doit g) (map_doit f) (map_doit (λ n. g (f n))) map_doit-map_doit image.doits i;
    heads = image.heads;
  }

module _ {M N : Type 0} (f g : M → N) where
  map_class-same : (c : ClassOf M) → ClassNames (λ n. f n ≡ g n) c → map_class f c ≡ map_class g c
  map_class-same c p = λ i. record {
    name = p.name i;
    superclass = option-same f g c.superclass p.superclass i;
    instance = map-all f g c.instance p.instance i;
    shared = map-all f g c.shared p.shared i;
    class_side = map-all f g c.class_side p.class_side i;
    category = c.category;
    comment = c.comment;
    kernel = c.kernel;
  }

  map_entry-same : (m : EntryOf M) → EntryNames (λ n. f n ≡ g n) m → map_entry f m ≡ map_entry g m
  map_entry-same m p = λ i. record {
    class = option-same f g m.class p.class i;
    meta = m.meta;
    protocol = m.protocol;
    source = m.source;
    tree = map_method-same f g m.tree p.tree i;
    kernel = m.kernel;
  }

  map_doit-same : (d : DoItOf M) → DoItNames (λ n. f n ≡ g n) d → map_doit f d ≡ map_doit g d
  map_doit-same d p = λ i. record { source = d.source; body = map_sequence-same f g d.body p i }

  -- two functions that agree on all names of an image make the same image of it
  pub map_image-same : (i : ImageOf M) → ImageNames (λ n. f n ≡ g n) i → map_image f i ≡ map_image g i
  map_image-same image p = λ i. record {
    classes = map-all (map_class f) (map_class g) image.classes (all-implies _ _ map_class-same image.classes p.classes) i;
    methods = map-all (map_entry f) (map_entry g) image.methods (all-implies _ _ map_entry-same image.methods p.methods) i;
    doits = map-all (map_doit f) (map_doit g) image.doits (all-implies _ _ map_doit-same image.doits p.doits) i;
    heads = image.heads;
  }

-- a fact of each name follows from another
module _ {N : Type 0} (P Q : N → Type 0) (h : (n : N) → P n → Q n) where
  pub ClassNames-implies : (c : ClassOf N) → ClassNames P c → ClassNames Q c
  ClassNames-implies c p = record {
    name = h c.name p.name;
    superclass = option-implies P Q h c.superclass p.superclass;
    instance = all-implies P Q h c.instance p.instance;
    shared = all-implies P Q h c.shared p.shared;
    class_side = all-implies P Q h c.class_side p.class_side;
  }

  pub EntryNames-implies : (m : EntryOf N) → EntryNames P m → EntryNames Q m
  EntryNames-implies m p = record { class = option-implies P Q h m.class p.class; tree = MethodNames-implies P Q h m.tree p.tree }

  pub ImageNames-implies : (i : ImageOf N) → ImageNames P i → ImageNames Q i
  ImageNames-implies i p = record {
    classes = all-implies _ _ ClassNames-implies i.classes p.classes;
    methods = all-implies _ _ EntryNames-implies i.methods p.methods;
    doits = all-implies _ _ (λ d q. SequenceNames-implies P Q h d.body q) i.doits p.doits;
  }

-- a fact of each name of a mapped image
module _ {M N : Type 0} (P : N → Type 0) (f : M → N) where
  option-names : (o : Option M) → OptionNames (λ n. P (f n)) o → OptionNames P (option_map f o)
  option-names None p = tt
  option-names (Some n) p = p

  pub ClassNames-map_class : (c : ClassOf M) → ClassNames (λ n. P (f n)) c → ClassNames P (map_class f c)
  ClassNames-map_class c p = record {
    name = p.name;
    superclass = option-names c.superclass p.superclass;
    instance = all-map P f c.instance p.instance;
    shared = all-map P f c.shared p.shared;
    class_side = all-map P f c.class_side p.class_side;
  }

  pub EntryNames-map_entry : (m : EntryOf M) → EntryNames (λ n. P (f n)) m → EntryNames P (map_entry f m)
  EntryNames-map_entry m p = record { class = option-names m.class p.class; tree = MethodNames-map_method P f m.tree p.tree }

  pub ImageNames-map_image : (i : ImageOf M) → ImageNames (λ n. P (f n)) i → ImageNames P (map_image f i)
  ImageNames-map_image i p = record {
    classes = all-map (ClassNames P) (map_class f) i.classes (all-implies _ _ ClassNames-map_class i.classes p.classes);
    methods = all-map (EntryNames P) (map_entry f) i.methods (all-implies _ _ EntryNames-map_entry i.methods p.methods);
    doits = all-map (DoItNames P) (map_doit f) i.doits (all-implies _ _ (λ d q. SequenceNames-map_sequence P f d.body q) i.doits p.doits);
  }
