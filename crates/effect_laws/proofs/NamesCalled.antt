-- A name that becomes a new one, in lists of names and among what is known of them.
use Rattle.std.proofs.Common.{◌≡◌, ◌⊎◌, inl, inr, Bool, true, false, List, [], ◌∷◌, ◌++◌, map, refl, sym, ap, ◌∙◌}
use Rattle.std.specs.Prelude.{◌||◌, if◌then◌else◌}
use Rattle.std.specs.List.{list_any}
use Rattle.std.specs.Str.{bytes_eq}
use Rattle.std.proofs.lemmas.Bool.{or_parts}
use Rattle.std.proofs.lemmas.List.{map-append}
use Rattle.rb_base.specs.Names.{text_eq}
use Rattle.rb_base.proofs.NamesLemmas.{text_eq-refl}
use Rattle.grammar_model.specs.Checks.{Known, is_fixed}
use Rattle.reread_law.specs.WellFormed.{IsWord, AllWords}
use Rattle.reread_law.specs.Declarations.{repeats, known_names}
use Rattle.reread_law.specs.WholeTrees.{AreNamed, LastName, MoreNames, IsPattern, ByName, ByOperator, ByKeywords}
use Rattle.file_model.specs.Filing.{Text}
use Rattle.effect_laws.proofs.Tests.{differ, told_apart, same_or_not}

module _ (x y : Text) where
  -- what a declared name becomes
  abbrev pub to : Text → Text
  to n = if text_eq x n then y else n

  -- the old name becomes the new one, and another one stays
  abbrev pub IsTo : Text → Type 0
  IsTo n = ((x ≡ n) × (to n ≡ y)) ⊎ ((x ≡ n → ⊥) × (to n ≡ n))

  pub to_is : (n : Text) → IsTo n
  to_is n = by (same_or_not x n)
    where
      by : (x ≡ n) ⊎ (x ≡ n → ⊥) → IsTo n
      by (inl q) = inl (q, ap (λ b. if b then y else n) (ap (λ m. text_eq m n) q ∙ text_eq-refl n))
      by (inr q) = inr (q, ap (λ b. if b then y else n) (told_apart x n q))

  -- two names that are not the new one are told apart as before
  pub told_to : (m n : Text) → text_eq y m ≡ false → text_eq y n ≡ false → text_eq (to m) (to n) ≡ text_eq m n
  told_to m n f g = by (to_is m) (to_is n)
    where
      by : IsTo m → IsTo n → text_eq (to m) (to n) ≡ text_eq m n
      by (inl p) (inl q) = (λ i. text_eq (p.1 i) (q.1 i)) ∙ text_eq-refl y ∙ sym (text_eq-refl n) ∙ ap (λ k. text_eq k n) (sym q.0 ∙ p.0)
      by (inl p) (inr q) = (λ i. text_eq (p.1 i) (q.1 i)) ∙ g ∙ sym (told_apart m n (λ e. q.0 (p.0 ∙ e)))
      by (inr p) (inl q) = (λ i. text_eq (p.1 i) (q.1 i)) ∙ told_apart m y (λ e. differ y m f (sym e)) ∙ sym (told_apart m n (λ e. p.0 (q.0 ∙ sym e)))
      by (inr p) (inr q) = λ i. text_eq (p.1 i) (q.1 i)

  -- so nothing is declared twice that was not
  among_to : (n : Text) (ns : List Text) → text_eq y n ≡ false → list_any (text_eq y) ns ≡ false → list_any (λ m. bytes_eq (to n) m) (map to ns) ≡ list_any (λ m. bytes_eq n m) ns
  among_to n [] f h = refl
  among_to n (m ∷ ns) f h =
      let p = or_parts (text_eq y m) (list_any (text_eq y) ns) h in
      λ i. told_to n m f p.0 i || among_to n ns f p.1 i

  repeats_to : (seen ns : List Text) → list_any (text_eq y) seen ≡ false → list_any (text_eq y) ns ≡ false → repeats (map to seen) (map to ns) ≡ repeats seen ns
  repeats_to seen [] f h = refl
  repeats_to seen (n ∷ ns) f h =
      let p = or_parts (text_eq y n) (list_any (text_eq y) ns) h in
      λ i. among_to n seen p.0 f i || repeats_to (n ∷ seen) ns (λ j. p.0 j || f j) p.1 i

  pub twice_to : (ps ds : List Text) → list_any (text_eq y) (ps ++ ds) ≡ false → repeats [] (map to ps ++ map to ds) ≡ repeats [] (ps ++ ds)
  twice_to ps ds h = ap (repeats []) (sym (map-append to ps ds)) ∙ repeats_to [] (ps ++ ds) refl h

  -- what is known of a name
  abbrev pub anew : Known → Known
  anew k = record { name = to k.name; fixed = k.fixed }

  -- the new name is not known
  abbrev pub Lacks : List Known → Type 0
  Lacks ks = list_any (λ (k : Known). text_eq y k.name) ks ≡ false

  made_anew : (b : Bool) (ns : List Text) → map (λ (n : Text). record { name = n; fixed = b }) (map to ns) ≡ map anew (map (λ (n : Text). record { name = n; fixed = b }) ns)
  made_anew b [] = refl
  made_anew b (n ∷ ns) = ap (λ (ks : List Known). record { name = to n; fixed = b } ∷ ks) (made_anew b ns)

  pub known_anew : (ps ds : List Text) (ks : List Known) → known_names (map to ps) (map to ds) ++ map anew ks ≡ map anew (known_names ps ds ++ ks)
  known_anew ps ds ks =
      (λ i. (made_anew true ps i ++ made_anew false ds i) ++ map anew ks)
      ∙ ap (λ (ls : List Known). ls ++ map anew ks) (sym (map-append anew (map (λ (n : Text). record { name = n; fixed = true }) ps) (map (λ (n : Text). record { name = n; fixed = false }) ds)))
      ∙ sym (map-append anew (known_names ps ds) ks)

  lacks_made : (b : Bool) (ns : List Text) (ks : List Known) → list_any (text_eq y) ns ≡ false → Lacks ks → Lacks (map (λ (n : Text). record { name = n; fixed = b }) ns ++ ks)
  lacks_made b [] ks h l = l
  lacks_made b (n ∷ ns) ks h l =
      let p = or_parts (text_eq y n) (list_any (text_eq y) ns) h in
      λ i. p.0 i || lacks_made b ns ks p.1 l i

  pub lacks_known : (ps ds : List Text) (ks : List Known) → list_any (text_eq y) (ps ++ ds) ≡ false → Lacks ks → Lacks (known_names ps ds ++ ks)
  lacks_known [] ds ks h l = lacks_made false ds ks h l
  lacks_known (n ∷ ps) ds ks h l =
      let p = or_parts (text_eq y n) (list_any (text_eq y) (ps ++ ds)) h in
      λ i. p.0 i || lacks_known ps ds ks p.1 l i

  -- the new name is fixed where the old one was
  fixed_new : (ks : List Known) → Lacks ks → is_fixed (map anew ks) y ≡ is_fixed ks x
  fixed_new [] l = refl
  fixed_new (k ∷ ks) l = by (to_is k.name) (fixed_new ks parts.1)
    where
      parts : (text_eq y k.name ≡ false) × Lacks ks
      parts = or_parts (text_eq y k.name) (list_any (λ (z : Known). text_eq y z.name) ks) l

      by : IsTo k.name → is_fixed (map anew ks) y ≡ is_fixed ks x → is_fixed (map anew (k ∷ ks)) y ≡ is_fixed (k ∷ ks) x
      by (inl q) rest =
          ap (λ b. if b then k.fixed else is_fixed (map anew ks) y) (ap (text_eq y) q.1 ∙ text_eq-refl y)
          ∙ sym (ap (λ b. if b then k.fixed else is_fixed ks x) (ap (text_eq x) (sym q.0) ∙ text_eq-refl x))
      by (inr q) rest =
          ap (λ b. if b then k.fixed else is_fixed (map anew ks) y) (ap (text_eq y) q.1 ∙ parts.0) ∙ rest
          ∙ sym (ap (λ b. if b then k.fixed else is_fixed ks x) (told_apart x k.name q.0))

  -- the old one is not known any more
  fixed_old : (y ≡ x → ⊥) → (ks : List Known) → is_fixed (map anew ks) x ≡ false
  fixed_old other [] = refl
  fixed_old other (k ∷ ks) = ap (λ b. if b then k.fixed else is_fixed (map anew ks) x) (told_apart x (to k.name) (by (to_is k.name))) ∙ fixed_old other ks
    where
      by : IsTo k.name → x ≡ to k.name → ⊥
      by (inl q) e = other (sym (e ∙ q.1))
      by (inr q) e = q.0 (e ∙ q.1)

  -- and any other one is as before
  fixed_other : (n : Text) → (y ≡ n → ⊥) → (x ≡ n → ⊥) → (ks : List Known) → is_fixed (map anew ks) n ≡ is_fixed ks n
  fixed_other n new old [] = refl
  fixed_other n new old (k ∷ ks) = λ i. if told i then k.fixed else fixed_other n new old ks i
    where
      by : IsTo k.name → text_eq n (to k.name) ≡ text_eq n k.name
      by (inl q) = ap (text_eq n) q.1 ∙ told_apart n y (λ e. new (sym e)) ∙ sym (told_apart n k.name (λ e. old (q.0 ∙ sym e)))
      by (inr q) = ap (text_eq n) q.1

      told : text_eq n (to k.name) ≡ text_eq n k.name
      told = by (to_is k.name)

  -- so what may be assigned may be so under its name, where that is the old or the new one for the old
  pub may_assign : (n m : Text) (ks : List Known) → Lacks ks → (y ≡ n → ⊥) → (m ≡ n) ⊎ ((x ≡ n) × (m ≡ y)) → is_fixed ks n ≡ false → is_fixed (map anew ks) m ≡ false
  may_assign n m ks l new (inl e) h = ap (is_fixed (map anew ks)) e ∙ by (same_or_not x n)
    where
      by : (x ≡ n) ⊎ (x ≡ n → ⊥) → is_fixed (map anew ks) n ≡ false
      by (inl q) = ap (is_fixed (map anew ks)) (sym q) ∙ fixed_old (λ p. new (p ∙ q)) ks
      by (inr q) = fixed_other n new q ks ∙ h
  may_assign n m ks l new (inr e) h = ap (is_fixed (map anew ks)) e.1 ∙ fixed_new ks l ∙ ap (is_fixed ks) e.0 ∙ h

  -- the new name is an identifier
  module _ (word : IsWord y) where
    pub word_to : (n : Text) → IsWord n → IsWord (to n)
    word_to n h = by (text_eq x n)
      where
        by : (b : Bool) → IsWord (if b then y else n)
        by true = word
        by false = h

    pub words_to : (ns : List Text) → AllWords ns → AllWords (map to ns)
    words_to [] h = tt
    words_to (n ∷ ns) h = (word_to n h.0, words_to ns h.1)

    named_to : (s : Text) (ns : List Text) → AreNamed s ns → AreNamed s (map to ns)
    named_to s ns (LastName {n = n} k h) = LastName k (word_to n h)
    named_to s ns (MoreNames {s = t} {n = n} {ns = ms} k h g) = MoreNames k (word_to n h) (named_to t ms g)

    pub pattern_to : (s : Text) (ns : List Text) → IsPattern s ns → IsPattern s (map to ns)
    pattern_to s ns (ByName h) = ByName h
    pattern_to s ns (ByOperator {n = n} h g) = ByOperator h (word_to n g)
    pattern_to s ns (ByKeywords g) = ByKeywords (named_to s ns g)
