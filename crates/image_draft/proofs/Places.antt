-- A class that is changed at its place.
use Rattle.std.proofs.Common.{◌≡◌, ℕ, zero, suc, ◌+◌, ◌≤◌, Bool, true, false, not, cond, List, [], ◌∷◌, ◌++◌, length, find, position, is_some, IfSome, Option, Some, None, slice_get, slice_set, get_or, nat_eq, nat_lt, refl, sym, ap, subst, ◌∙◌, arith, true≢false}
use Rattle.std.specs.List.{position_or_len}
use Rattle.std.proofs.lemmas.Bool.{ltb-false}
use Rattle.std.proofs.lemmas.List.Quantifiers.{position-Some}
use Rattle.std.proofs.lemmas.Option.{slice_get-get_or}
use Rattle.image_model.specs.Image.{ClassOf}
use Rattle.file_model.specs.Hierarchy.{has_class}
use Rattle.file_model.specs.Changes.{DefinitionOf}
use Rattle.file_model.specs.Applied.{changed_class, class_again, new_class, with_definition}
use Rattle.image_draft.specs.Names.{NamesDiffer}
use Rattle.image_draft.proofs.Numbers.{nat_equal}

-- a class of no kind, which stands for what is behind the end of a list
nothing : ClassOf ℕ
nothing = record { name = 0; superclass = None; instance = []; shared = []; class_side = []; category = []; comment = []; kernel = false }

-- what stands at the first place that passes
pub placed : (p : ClassOf ℕ → Bool) (cs : List (ClassOf ℕ)) (k : ℕ) → position p cs ≡ Some k → (c : ClassOf ℕ) × (slice_get cs k ≡ Some c) × (p c ≡ true)
placed p cs k e =
    let there = position-Some p cs k nothing e in
    (get_or cs k nothing, slice_get-get_or cs k nothing there.0, there.1)

-- where no place passes, no class has the name
missing : (n : ℕ) (cs : List (ClassOf ℕ)) → length cs ≤ position_or_len (λ (c : ClassOf ℕ). nat_eq n c.name) cs → has_class nat_eq cs n ≡ false
missing n [] h = refl
missing n (x ∷ xs) h = by (nat_eq n x.name) refl (missing n xs)
  where
    by : (b : Bool) → nat_eq n x.name ≡ b → (length xs ≤ position_or_len (λ (c : ClassOf ℕ). nat_eq n c.name) xs → has_class nat_eq xs n ≡ false) → is_some (cond b (Some x) (find (λ (c : ClassOf ℕ). nat_eq n c.name) xs)) ≡ false
    by true q rest =
        let first : position_or_len (λ (c : ClassOf ℕ). nat_eq n c.name) (x ∷ xs) ≡ 0 = ap (λ (b : Bool). cond (not b) (1 + position_or_len (λ (c : ClassOf ℕ). nat_eq n c.name) xs) 0) q in
        absurd (omega (arith, first, h))
    by false q rest =
        let later : position_or_len (λ (c : ClassOf ℕ). nat_eq n c.name) (x ∷ xs) ≡ 1 + position_or_len (λ (c : ClassOf ℕ). nat_eq n c.name) xs = ap (λ (b : Bool). cond (not b) (1 + position_or_len (λ (c : ClassOf ℕ). nat_eq n c.name) xs) 0) q in
        rest (omega (arith, later, h))

pub unplaced : (n : ℕ) (cs : List (ClassOf ℕ)) → position (λ (c : ClassOf ℕ). nat_eq n c.name) cs ≡ None → has_class nat_eq cs n ≡ false
unplaced n cs e = by (nat_lt (position_or_len (λ (c : ClassOf ℕ). nat_eq n c.name) cs) (length cs)) refl e
  where
    by : (b : Bool) → nat_lt (position_or_len (λ (c : ClassOf ℕ). nat_eq n c.name) cs) (length cs) ≡ b → ◌≡◌ {A = Option ℕ} (cond b (Some (position_or_len (λ (c : ClassOf ℕ). nat_eq n c.name) cs)) None) None → has_class nat_eq cs n ≡ false
    by true q r = absurd (cc)
    by false q r = missing n cs (ltb-false (position_or_len (λ (c : ClassOf ℕ). nat_eq n c.name) cs) (length cs) q)

-- a class that stands at a place is there
pub stands-at : (n : ℕ) (cs : List (ClassOf ℕ)) (k : ℕ) (c : ClassOf ℕ) → slice_get cs k ≡ Some c → nat_eq n c.name ≡ true → has_class nat_eq cs n ≡ true
stands-at n [] k c at same = absurd (cc)
stands-at n (x ∷ xs) zero c at same =
    let one : x ≡ c = cc in
    ap (λ (b : Bool). is_some (cond b (Some x) (find (λ (d : ClassOf ℕ). nat_eq n d.name) xs))) (ap (λ (d : ClassOf ℕ). nat_eq n d.name) one ∙ same)
stands-at n (x ∷ xs) (suc k) c at same = by (nat_eq n x.name) (stands-at n xs k c at same)
  where
    by : (b : Bool) → has_class nat_eq xs n ≡ true → is_some (cond b (Some x) (find (λ (d : ClassOf ℕ). nat_eq n d.name) xs)) ≡ true
    by true rest = refl
    by false rest = rest

-- no class is changed where none has the name
pub changed-none : (n : ℕ) (g : ClassOf ℕ → ClassOf ℕ) (cs : List (ClassOf ℕ)) → has_class nat_eq cs n ≡ false → changed_class nat_eq n g cs ≡ cs
changed-none n g [] h = refl
changed-none n g (x ∷ xs) h = by (nat_eq n x.name) h (changed-none n g xs)
  where
    by : (b : Bool) → is_some (cond b (Some x) (find (λ (d : ClassOf ℕ). nat_eq n d.name) xs)) ≡ false → (has_class nat_eq xs n ≡ false → changed_class nat_eq n g xs ≡ xs) → cond b (g x) x ∷ changed_class nat_eq n g xs ≡ x ∷ xs
    by true k rest = absurd (true≢false k)
    by false k rest = ap (λ (ys : List (ClassOf ℕ)). x ∷ ys) (rest k)

-- where names differ, the class of a name is changed at its place alone
pub changed-at : (n : ℕ) (g : ClassOf ℕ → ClassOf ℕ) (cs : List (ClassOf ℕ)) (k : ℕ) (c : ClassOf ℕ) → NamesDiffer cs → slice_get cs k ≡ Some c → nat_eq n c.name ≡ true → changed_class nat_eq n g cs ≡ slice_set cs k (g c)
changed-at n g [] k c differ at same = absurd (cc)
changed-at n g (x ∷ xs) zero c differ at same =
    let one : x ≡ c = cc in
    let named : n ≡ x.name = nat_equal n c.name same ∙ ap (λ (d : ClassOf ℕ). d.name) (sym one) in
    let head : cond (nat_eq n x.name) (g x) x ≡ g c = ap (λ (b : Bool). cond b (g x) x) (ap (λ (d : ClassOf ℕ). nat_eq n d.name) one ∙ same) ∙ ap g one in
    λ i. head i ∷ changed-none n g xs (ap (has_class nat_eq xs) named ∙ differ.0) i
changed-at n g (x ∷ xs) (suc k) c differ at same = by (nat_eq n x.name) refl (changed-at n g xs k c differ.1 at same)
  where
    by : (b : Bool) → nat_eq n x.name ≡ b → changed_class nat_eq n g xs ≡ slice_set xs k (g c) → cond b (g x) x ∷ changed_class nat_eq n g xs ≡ x ∷ slice_set xs k (g c)
    by true e rest = absurd (true≢false (sym (stands-at n xs k c at same) ∙ ap (has_class nat_eq xs) (nat_equal n x.name e) ∙ differ.0))
    by false e rest = ap (λ (ys : List (ClassOf ℕ)). x ∷ ys) rest

-- a class that is there is defined again at its place
pub defined-again : (kernel : Bool) (d : DefinitionOf ℕ) (n : ℕ) (cs new : List (ClassOf ℕ)) (k : ℕ) → n ≡ d.name → NamesDiffer cs → position (λ (c : ClassOf ℕ). nat_eq n c.name) cs ≡ Some k
    → IfSome (slice_get cs k) (λ (c : ClassOf ℕ). new ≡ slice_set cs k (class_again d c)) → new ≡ with_definition nat_eq kernel d cs
defined-again kernel d n cs new k named differ e h =
    let at = placed (λ (c : ClassOf ℕ). nat_eq n c.name) cs k e in
    let there : has_class nat_eq cs d.name ≡ true = ap (has_class nat_eq cs) (sym named) ∙ stands-at n cs k at.0 at.1 at.2 in
    let changed : changed_class nat_eq d.name (class_again d) cs ≡ slice_set cs k (class_again d at.0) = ap (λ (m : ℕ). changed_class nat_eq m (class_again d) cs) (sym named) ∙ changed-at n (class_again d) cs k at.0 differ at.1 at.2 in
    subst (λ (o : Option (ClassOf ℕ)). IfSome o (λ (c : ClassOf ℕ). new ≡ slice_set cs k (class_again d c))) at.1 h
    ∙ sym (ap (λ (b : Bool). cond b (changed_class nat_eq d.name (class_again d) cs) (cs ++ new_class kernel d ∷ [])) there ∙ changed)

-- a class that is not there is put last
pub defined-last : (kernel : Bool) (d : DefinitionOf ℕ) (n : ℕ) (cs : List (ClassOf ℕ)) → n ≡ d.name → position (λ (c : ClassOf ℕ). nat_eq n c.name) cs ≡ None → cs ++ new_class kernel d ∷ [] ≡ with_definition nat_eq kernel d cs
defined-last kernel d n cs named e =
    let absent : has_class nat_eq cs d.name ≡ false = ap (has_class nat_eq cs) (sym named) ∙ unplaced n cs e in
    sym (ap (λ (b : Bool). cond b (changed_class nat_eq d.name (class_again d) cs) (cs ++ new_class kernel d ∷ [])) absent)
