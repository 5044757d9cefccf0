-- The lists of an index.
use Rattle.std.proofs.Common.{◌≡◌, ◌⊎◌, inl, inr, ℕ, List, [], ◌∷◌, ◌++◌, ◌&&◌, Bool, true, false, not, if◌then◌else◌, Contains, nat_eq, refl, ◌∙◌, subst}
use Rattle.std.specs.Prelude.{filter}
use Rattle.std.specs.List.{list_any, flat_map, IsDistinct}
use Rattle.std.proofs.lemmas.List.{append_assoc, append-nil}
use Rattle.std.proofs.lemmas.List.Elements.{Contains-append_left, Contains-append_right, Contains-append_cases}
use Rattle.std.proofs.lemmas.List.Folds.{list_any-append}
use Rattle.std.proofs.lemmas.Map.Keys.{IsDistinct-head, IsDistinct-tail, IsDistinct-push}
use Rattle.std.proofs.lemmas.Map.Views.{Contains-from_any}
use Rattle.mentions.proofs.Lists.{Contains-first, Contains-later, Contains-mapped, Contains-piece, Contains-cases}
use Rattle.class_table.specs.declared.record.Place.{Place}
use Rattle.class_table.specs.declared.record.Place.TheVariants as place
use Rattle.reference_index.specs.declared.fresh.Fresh.{Fresh}
use Rattle.reference_index.specs.Mentioned.{Mentioned, ListsPlaces, same_place, kept_of}
use Rattle.reference_index.specs.Rows.{mentions}
use Rattle.reference_index.specs.Fresh.{places_of, kept_after, comes, gone}
use Rattle.reference_index.specs.Lists.{list_of, AreListsOf, SameMentioning}
use Rattle.reference_index.proofs.Members.{not-passed, none-in_nothing, number-found, number-tested, IsDistinct-nil, IsDistinct-filter, Contains-filtered, filtered-passes, Contains-in_piece, fact-of}
use Rattle.reference_index.proofs.PlacesOnce.{place-is, place_equiv}
use Rattle.reference_index.proofs.FreshLemmas.{found, kept-fresh_at}

-- nothing is kept of any place
pub nothing-kept : (p : Place) → kept_of (record { methods = []; doits = [] }) p ≡ []
nothing-kept (place.Method k) = refl
nothing-kept (place.DoIt n) = refl

-- no lists are those of an index of nothing
pub lists-of-nothing : AreListsOf (record { methods = []; doits = [] }) []
lists-of-nothing name = record {
  once = IsDistinct-nil same_place;
  members = λ p. ((λ h. absurd (none-in_nothing p h)), (λ h. absurd (none-in_nothing name (rw (nothing-kept p) at h))));
}

-- a list with all places of which a name is kept is filtered to these
pub listed-filter : (x : Mentioned) (n : ℕ) (ps : List Place) → IsDistinct same_place ps → ((p : Place) → mentions x n p ≡ true → Contains ps p) → ListsPlaces x n (filter (mentions x n) ps)
listed-filter x n ps d all = record {
  once = IsDistinct-filter same_place (mentions x n) ps d;
  members =
      λ p. (
        λ h. number-found n (kept_of x p) (filtered-passes (mentions x n) ps p h),
        λ h. let m = number-tested n (kept_of x p) h in Contains-filtered (mentions x n) ps p (all p m) m,
      );
}

-- lists that were added to are as they were after each is filtered
pub lists-restored : (x : Mentioned) (old mid new : List (List Place)) → AreListsOf x old → SameMentioning x old mid → ((n : ℕ) → list_of new n ≡ filter (mentions x n) (list_of mid n)) → AreListsOf x new
lists-restored x old mid new lists same settled n =
    rw (settled n, same n) (listed-filter x n (list_of old n) (lists n).once (λ p m. ((lists n).members p).1 (number-found n (kept_of x p) m)))

-- a place comes to a list or not
comes-cases : (x : Mentioned) (n : ℕ) (f : Fresh) → (comes x n f ≡ []) ⊎ ((comes x n f ≡ f.place ∷ []) × (mentions x n f.place ≡ false))
comes-cases x n f = go (list_any (nat_eq n) f.names) (mentions x n f.place) where
  go : (b m : Bool) → ((if b && not m then f.place ∷ [] else []) ≡ []) ⊎ (((if b && not m then f.place ∷ [] else []) ≡ f.place ∷ []) × (m ≡ false))
  go true true = inl refl
  go true false = inr (refl, refl)
  go false m = inl refl

-- a place that comes is that of code that mentions the name
comes-mentioned : (x : Mentioned) (n : ℕ) (f : Fresh) (p : Place) → Contains (comes x n f) p → (f.place ≡ p) × (list_any (nat_eq n) f.names ≡ true)
comes-mentioned x n f p h = go (list_any (nat_eq n) f.names) (mentions x n f.place) h where
  go : (b m : Bool) → Contains (if b && not m then f.place ∷ [] else []) p → (f.place ≡ p) × (b ≡ true)
  go true true h = absurd (none-in_nothing p h)
  go true false h = elim (Contains-cases f.place p [] h) [ inl e ↦ (e, refl) | inr there ↦ absurd (none-in_nothing p there) ]
  go false m h = absurd (none-in_nothing p h)

-- code that mentions the name, and did not, comes
comes-there : (x : Mentioned) (n : ℕ) (f : Fresh) → list_any (nat_eq n) f.names ≡ true → mentions x n f.place ≡ false → Contains (comes x n f) f.place
comes-there x n f b m = rw (b, m) (Contains-first f.place f.place [] refl)

apart-more : (base : List Place) (p q : Place) → list_any (same_place q) base ≡ false → same_place p q ≡ false → list_any (same_place q) (base ++ p ∷ []) ≡ false
apart-more base p q h e = rw (list_any-append (same_place q) base (p ∷ []), h, place_equiv.symm q p, e) refl

-- a list still has each place once after others come
distinct-entered : (x : Mentioned) (n : ℕ) (base : List Place) (fresh : List Fresh) → IsDistinct same_place base → IsDistinct same_place (places_of fresh) → ((f : Fresh) → Contains fresh f → mentions x n f.place ≡ false → list_any (same_place f.place) base ≡ false) → IsDistinct same_place (base ++ flat_map (comes x n) fresh)
distinct-entered x n base [] d e apart = rw (append-nil base) d
distinct-entered x n base (f ∷ fresh) d e apart =
    elim (comes-cases x n f) [
      | inl e0 ↦ rw e0 (distinct-entered x n base fresh d (IsDistinct-tail same_place f.place (places_of fresh) e) (λ g h. apart g (Contains-later f g fresh h)))
      | inr new ↦
          rw new.0
          (subst (λ ps. IsDistinct same_place ps) (append_assoc base (f.place ∷ []) (flat_map (comes x n) fresh))
          (distinct-entered x n (base ++ f.place ∷ []) fresh
          (IsDistinct-push place_equiv base f.place d (apart f (Contains-first f f fresh refl) new.1))
          (IsDistinct-tail same_place f.place (places_of fresh) e)
          (λ g h m.
          apart-more base f.place g.place (apart g (Contains-later f g fresh h) m)
          (fact-of (λ q. same_place f.place q ≡ false) (places_of fresh) g.place
          (IsDistinct-head same_place f.place (places_of fresh) e)
          (Contains-mapped (λ (k : Fresh). k.place) fresh g h)))))
    ]

-- how lists become those of the index after the fresh names are kept
module _ (x y : Mentioned) (fresh : List Fresh) (old : List (List Place)) (lists : AreListsOf x old) (apart : IsDistinct same_place (places_of fresh)) (kept : (p : Place) → kept_of y p ≡ kept_after x fresh p) where
  -- the list of a name after places came
  abbrev entered : ℕ → List Place
  entered n = list_of old n ++ flat_map (comes x n) fresh

  mentioned-old : (n : ℕ) (p : Place) → mentions x n p ≡ true → Contains (list_of old n) p
  mentioned-old n p m = ((lists n).members p).1 (number-found n (kept_of x p) m)

  old-mentioned : (n : ℕ) (p : Place) → Contains (list_of old n) p → mentions x n p ≡ true
  old-mentioned n p h = number-tested n (kept_of x p) (((lists n).members p).0 h)

  entered-once : (n : ℕ) → IsDistinct same_place (entered n)
  entered-once n =
      distinct-entered x n (list_of old n) fresh (lists n).once apart
      (λ f h m.
      not-passed (list_any (same_place f.place) (list_of old n))
      (λ t. let there = old-mentioned n f.place (Contains-from_any place-is f.place (list_of old n) t) in absurd (cc)))

  came : (n : ℕ) (f : Fresh) (p : Place) → Contains fresh f → f.place ≡ p → list_any (nat_eq n) f.names ≡ true → (b : Bool) → mentions x n p ≡ b → Contains (entered n) p
  came n f p h e named true m = Contains-append_left (list_of old n) (flat_map (comes x n) fresh) p (mentioned-old n p m)
  came n f p h e named false m =
      Contains-append_right (list_of old n) (flat_map (comes x n) fresh) p
      (Contains-piece (comes x n) fresh f p h (rw (← e) (comes-there x n f named (rw e m))))

  -- each place whose code mentions the name now is there
  entered-all : (n : ℕ) (p : Place) → mentions y n p ≡ true → Contains (entered n) p
  entered-all n p m =
      elim (found fresh p) [
        | inl f ↦
            let names : kept_of y p ≡ f.names.names = rw (kept p, f.is) refl in
            came n f.names p f.among f.at (rw names at m) (mentions x n p) refl
        | inr out ↦
            let names : kept_of y p ≡ kept_of x p = rw (kept p, out.is) refl in
            Contains-append_left (list_of old n) (flat_map (comes x n) fresh) p (mentioned-old n p (rw names at m))
      ]

  stays : (n : ℕ) (f : Fresh) (p : Place) → Contains fresh f → f.place ≡ p → (Contains (flat_map (gone x) fresh) n → ⊥) → Contains (kept_of x p) n → list_any (nat_eq n) f.names ≡ true
  stays n f p h e remains m = cases (list_any (nat_eq n) f.names) refl where
    cases : (b : Bool) → list_any (nat_eq n) f.names ≡ b → b ≡ true
    cases true t = refl
    cases false t =
        absurd (remains (Contains-piece (gone x) fresh f n h (Contains-filtered (λ k. not (list_any (nat_eq k) f.names)) (kept_of x f.place) n (rw e m) (rw t refl))))

  -- where no code mentions the name no longer, no other place is there
  entered-only : (n : ℕ) (p : Place) → (Contains (flat_map (gone x) fresh) n → ⊥) → Contains (entered n) p → mentions y n p ≡ true
  entered-only n p remains h =
      elim (Contains-append_cases (list_of old n) (flat_map (comes x n) fresh) p h) [
        | inl before ↦
            elim (found fresh p) [
              | inl f ↦
                  let names : kept_of y p ≡ f.names.names = rw (kept p, f.is) refl in
                  rw names (stays n f.names p f.among f.at remains (((lists n).members p).0 before))
              | inr out ↦
                  let names : kept_of y p ≡ kept_of x p = rw (kept p, out.is) refl in
                  rw names (old-mentioned n p before)
            ]
        | inr new ↦
            let f = Contains-in_piece (comes x n) fresh p new in
            let is = comes-mentioned x n f.piece p f.has in
            let names : kept_of y p ≡ f.piece.names = kept p ∙ kept-fresh_at x fresh f.piece p apart f.among is.0 in
            rw names is.1
      ]

  settled-list : (n : ℕ) (ps : List Place) (b : Bool) → (b ≡ false → Contains (flat_map (gone x) fresh) n → ⊥) → ps ≡ (if b then filter (mentions y n) (entered n) else entered n) → ListsPlaces y n ps
  settled-list n ps true remains is = rw is (listed-filter y n (entered n) (entered-once n) (entered-all n))
  settled-list n ps false remains is =
      rw is
      (record {
        once = entered-once n;
        members =
            λ p. (
              λ h. number-found n (kept_of y p) (entered-only n p (remains refl) h),
              λ h. entered-all n p (number-tested n (kept_of y p) h),
            );
      })

  -- the lists of the index after the places came, and the lists of the names that some code mentions no longer were filtered
  pub lists-after : (going : List ℕ) (new : List (List Place)) → ((n : ℕ) → Contains (flat_map (gone x) fresh) n → Contains going n) → ((n : ℕ) → list_of new n ≡ (if list_any (nat_eq n) going then filter (mentions y n) (entered n) else entered n)) → AreListsOf y new
  lists-after going new all settled n =
      settled-list n (list_of new n) (list_any (nat_eq n) going)
      (λ e h. let t = number-tested n going (all n h) in absurd (cc))
      (settled n)
