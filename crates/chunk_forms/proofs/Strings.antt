-- Words of strings, and arguments by their number.
use Rattle.std.proofs.Common.{◌≡◌, ℕ, Bool, true, false, not, cond, List, [], ◌∷◌, length, filter, Some, None, refl, sym, ap, ◌∙◌, true≢false, arith, take, drop, suc, ◌+◌}
use Rattle.std.specs.Prelude.{◌==◌, ◌||◌, ◌&&◌}
use Rattle.std.specs.List.{list_all, slice_split, onto_first, prefix_len}
use Rattle.tree_model.specs.Tree.{TreeOf, map_trees, trees_of, map_statements}
use Rattle.st_tree.specs.View.{statements_of}
use Rattle.st_tree.specs.declared.tree.Statement.{Statement}
use Rattle.file_model.specs.Numerals.{place_in}
use Rattle.file_model.specs.Forms.{Argument, Symbol, String, Numeral, Other, arguments_of, the_argument, sent_in_statements, DefinitionStrings, definition_strings}
use Rattle.chunk_forms.specs.Told.{FirstOf, FirstStringsOf, symbol_first, string_first, strings_first, one_place}

-- all parts pass or are empty where all that are not empty pass
pub list_all-filled : (q : List ℕ → Bool) (parts : List (List ℕ)) → list_all (λ (w : List ℕ). (length w == 0) || q w) parts ≡ list_all q (filter (λ (w : List ℕ). not (length w == 0)) parts)
list_all-filled q [] = refl
list_all-filled q (w ∷ ws) = by (length w == 0) (list_all-filled q ws)
  where
    by : (b : Bool) → list_all (λ (v : List ℕ). (length v == 0) || q v) ws ≡ list_all q (filter (λ (v : List ℕ). not (length v == 0)) ws)
        → ((b || q w) && list_all (λ (v : List ℕ). (length v == 0) || q v) ws) ≡ list_all q (cond (not b) (w ∷ filter (λ (v : List ℕ). not (length v == 0)) ws) (filter (λ (v : List ℕ). not (length v == 0)) ws))
    by true h = h
    by false h = ap (λ t. q w && t) h

-- two or more arguments are not one
pub no_one_argument : (f : ℕ → List ℕ) (ts : List (TreeOf ℕ)) (t : TreeOf ℕ) (others : List (TreeOf ℕ)) → ts ≡ t ∷ others → (length others == 0) ≡ false → the_argument (arguments_of (map_trees f (trees_of ts))) ≡ Other
no_one_argument f ts t [] e h = absurd (true≢false h)
no_one_argument f ts t (u ∷ us) e h = ap (λ (xs : List (TreeOf ℕ)). the_argument (arguments_of (map_trees f (trees_of xs)))) e

-- two or more statements are no message
pub no_one_statement : (f : ℕ → List ℕ) (ss : List Statement) (s : Statement) (others : List Statement) → ss ≡ s ∷ others → (length others == 0) ≡ false → None ≡ sent_in_statements (map_statements f (statements_of ss))
no_one_statement f ss s [] e h = absurd (true≢false h)
no_one_statement f ss s (t ∷ ts) e h = sym (ap (λ (xs : List Statement). sent_in_statements (map_statements f (statements_of xs))) e)

-- arguments that begin with a symbol
symbol_is : (xs : List Argument) (r : FirstOf) → Some r ≡ symbol_first xs → xs ≡ Symbol r.text ∷ r.others
symbol_is [] r e = absurd (cc)
symbol_is (Symbol t ∷ xs) r e = cc
symbol_is (String t ∷ xs) r e = absurd (cc)
symbol_is (Numeral t ∷ xs) r e = absurd (cc)
symbol_is (Other ∷ xs) r e = absurd (cc)

-- arguments that begin with a string
pub string_is : (xs : List Argument) (r : FirstOf) → Some r ≡ string_first xs → xs ≡ String r.text ∷ r.others
string_is [] r e = absurd (cc)
string_is (Symbol t ∷ xs) r e = absurd (cc)
string_is (String t ∷ xs) r e = cc
string_is (Numeral t ∷ xs) r e = absurd (cc)
string_is (Other ∷ xs) r e = absurd (cc)

-- a symbol and three strings
four : (xs : List Argument) (n i s p : FirstOf) → Some n ≡ symbol_first xs → Some i ≡ string_first n.others → Some s ≡ string_first i.others → Some p ≡ string_first s.others
    → xs ≡ Symbol n.text ∷ String i.text ∷ String s.text ∷ String p.text ∷ p.others
four xs n i s p a b d e =
    symbol_is xs n a
    ∙ ap (λ ys. Symbol n.text ∷ ys) (string_is n.others i b
    ∙ ap (λ ys. String i.text ∷ ys) (string_is i.others s d
    ∙ ap (λ ys. String s.text ∷ ys) (string_is s.others p e)))

-- where the first argument is no symbol, there is no definition
pub no_name : (xs : List Argument) → None ≡ symbol_first xs → None ≡ strings_first xs
no_name [] e = refl
no_name (Symbol t ∷ xs) e = absurd (cc)
no_name (String t ∷ xs) e = refl
no_name (Numeral t ∷ xs) e = refl
no_name (Other ∷ xs) e = refl

-- no string behind the symbol, behind one string and behind two
missing_instance : (n : List ℕ) (xs : List Argument) → None ≡ string_first xs → strings_first (Symbol n ∷ xs) ≡ None
missing_instance n [] e = refl
missing_instance n (Symbol t ∷ xs) e = refl
missing_instance n (String t ∷ xs) e = absurd (cc)
missing_instance n (Numeral t ∷ xs) e = refl
missing_instance n (Other ∷ xs) e = refl

missing_shared : (n i : List ℕ) (xs : List Argument) → None ≡ string_first xs → strings_first (Symbol n ∷ String i ∷ xs) ≡ None
missing_shared n i [] e = refl
missing_shared n i (Symbol t ∷ xs) e = refl
missing_shared n i (String t ∷ xs) e = absurd (cc)
missing_shared n i (Numeral t ∷ xs) e = refl
missing_shared n i (Other ∷ xs) e = refl

missing_pools : (n i s : List ℕ) (xs : List Argument) → None ≡ string_first xs → strings_first (Symbol n ∷ String i ∷ String s ∷ xs) ≡ None
missing_pools n i s [] e = refl
missing_pools n i s (Symbol t ∷ xs) e = refl
missing_pools n i s (String t ∷ xs) e = absurd (cc)
missing_pools n i s (Numeral t ∷ xs) e = refl
missing_pools n i s (Other ∷ xs) e = refl

pub no_instance : (xs : List Argument) (n : FirstOf) → Some n ≡ symbol_first xs → None ≡ string_first n.others → None ≡ strings_first xs
no_instance xs n a h = sym (ap strings_first (symbol_is xs n a) ∙ missing_instance n.text n.others h)

pub no_shared : (xs : List Argument) (n i : FirstOf) → Some n ≡ symbol_first xs → Some i ≡ string_first n.others → None ≡ string_first i.others → None ≡ strings_first xs
no_shared xs n i a b h = sym (ap strings_first (symbol_is xs n a ∙ ap (λ ys. Symbol n.text ∷ ys) (string_is n.others i b)) ∙ missing_shared n.text i.text i.others h)

pub no_pools : (xs : List Argument) (n i s : FirstOf) → Some n ≡ symbol_first xs → Some i ≡ string_first n.others → Some s ≡ string_first i.others → None ≡ string_first s.others → None ≡ strings_first xs
no_pools xs n i s a b d h =
    sym (ap strings_first (symbol_is xs n a ∙ ap (λ ys. Symbol n.text ∷ ys) (string_is n.others i b ∙ ap (λ ys. String i.text ∷ ys) (string_is i.others s d))) ∙ missing_pools n.text i.text s.text s.others h)

-- no fifth string
missing : (n i s p : List ℕ) (xs : List Argument) → None ≡ string_first xs → strings_first (Symbol n ∷ String i ∷ String s ∷ String p ∷ xs) ≡ None
missing n i s p [] e = refl
missing n i s p (Symbol t ∷ xs) e = refl
missing n i s p (String t ∷ xs) e = absurd (cc)
missing n i s p (Numeral t ∷ xs) e = refl
missing n i s p (Other ∷ xs) e = refl

-- where the fifth argument is no string, there is no definition
pub no_category : (xs : List Argument) (n i s p : FirstOf) → Some n ≡ symbol_first xs → Some i ≡ string_first n.others → Some s ≡ string_first i.others → Some p ≡ string_first s.others → None ≡ string_first p.others
    → None ≡ strings_first xs
no_category xs n i s p a b d e h =
    sym (ap strings_first (four xs n i s p a b d e) ∙ missing n.text i.text s.text p.text p.others h)

-- a symbol and four strings
pub five : (xs : List Argument) (n i s p k : FirstOf) → Some n ≡ symbol_first xs → Some i ≡ string_first n.others → Some s ≡ string_first i.others → Some p ≡ string_first s.others → Some k ≡ string_first p.others
    → Some (record { strings = record { name = n.text; instance = i.text; shared = s.text; pools = p.text; category = k.text }; others = k.others }) ≡ strings_first xs
five xs n i s p k a b d e h =
    sym (ap strings_first (four xs n i s p a b d e ∙ ap (λ ys. Symbol n.text ∷ String i.text ∷ String s.text ∷ String p.text ∷ ys) (string_is p.others k h)))

-- arguments that begin with the strings of a definition
strings_are : (xs : List Argument) (r : FirstStringsOf) → Some r ≡ strings_first xs
    → xs ≡ Symbol r.strings.name ∷ String r.strings.instance ∷ String r.strings.shared ∷ String r.strings.pools ∷ String r.strings.category ∷ r.others
strings_are (Symbol n ∷ String i ∷ String s ∷ String p ∷ String k ∷ xs) r e =
    let same : record { strings = record { name = n; instance = i; shared = s; pools = p; category = k }; others = xs } ≡ r = cc in
    ap (λ (q : FirstStringsOf). Symbol q.strings.name ∷ String q.strings.instance ∷ String q.strings.shared ∷ String q.strings.pools ∷ String q.strings.category ∷ q.others) same
strings_are xs r e = absurd (cc)

-- where a sixth argument follows, there is no definition
pub more_arguments : (f : ℕ → List ℕ) (xs : List Argument) (d : DefinitionStrings) (ts : List (TreeOf ℕ)) → (length ts == 0) ≡ false
    → Some (record { strings = d; others = arguments_of (map_trees f (trees_of ts)) }) ≡ strings_first xs → None ≡ definition_strings xs
more_arguments f xs d [] l e = absurd (true≢false l)
more_arguments f xs d (t ∷ ts) l e = sym (ap definition_strings (strings_are xs (record { strings = d; others = arguments_of (map_trees f (trees_of (t ∷ ts))) }) e))

-- the place that one numeral states
pub one_numeral : (xs : List Argument) (t : List ℕ) → the_argument xs ≡ Numeral t → place_in t ≡ one_place xs
one_numeral [] t e = absurd (cc)
one_numeral (Symbol u ∷ []) t e = absurd (cc)
one_numeral (String u ∷ []) t e = absurd (cc)
one_numeral (Numeral u ∷ []) t e = let same : t ≡ u = cc in ap place_in same
one_numeral (Other ∷ []) t e = absurd (cc)
one_numeral (x ∷ y ∷ xs) t e = absurd (cc)

-- a text begins with a word that a separator follows
pub split_word : (p : ℕ → Bool) (xs : List ℕ) (x : ℕ) (others : List ℕ) → drop (prefix_len (λ b. not (p b)) xs) xs ≡ x ∷ others → slice_split p xs ≡ take (prefix_len (λ b. not (p b)) xs) xs ∷ slice_split p others
split_word p [] x others e = absurd (cc)
split_word p (y ∷ ys) x others e = by (p y) e (split_word p ys x others)
  where
    by : (b : Bool) → drop (cond (not b) (1 + prefix_len (λ c. not (p c)) ys) 0) (y ∷ ys) ≡ x ∷ others
        → (drop (prefix_len (λ c. not (p c)) ys) ys ≡ x ∷ others → slice_split p ys ≡ take (prefix_len (λ c. not (p c)) ys) ys ∷ slice_split p others)
        → cond b ([] ∷ slice_split p ys) (onto_first y (slice_split p ys)) ≡ take (cond (not b) (1 + prefix_len (λ c. not (p c)) ys) 0) (y ∷ ys) ∷ slice_split p others
    by true h rest = let same : ys ≡ others = cc in ap (λ zs. [] ∷ slice_split p zs) same
    by false h rest =
        let next : suc (prefix_len (λ c. not (p c)) ys) ≡ 1 + prefix_len (λ c. not (p c)) ys = omega arith in
        ap (onto_first y) (rest (ap (λ k. drop k (y ∷ ys)) next ∙ h)) ∙ ap (λ k. take k (y ∷ ys) ∷ slice_split p others) next

-- a text is one word where no separator follows
pub split_last : (p : ℕ → Bool) (xs : List ℕ) → drop (prefix_len (λ b. not (p b)) xs) xs ≡ [] → slice_split p xs ≡ take (prefix_len (λ b. not (p b)) xs) xs ∷ []
split_last p [] e = refl
split_last p (y ∷ ys) e = by (p y) e (split_last p ys)
  where
    by : (b : Bool) → drop (cond (not b) (1 + prefix_len (λ c. not (p c)) ys) 0) (y ∷ ys) ≡ []
        → (drop (prefix_len (λ c. not (p c)) ys) ys ≡ [] → slice_split p ys ≡ take (prefix_len (λ c. not (p c)) ys) ys ∷ [])
        → cond b ([] ∷ slice_split p ys) (onto_first y (slice_split p ys)) ≡ take (cond (not b) (1 + prefix_len (λ c. not (p c)) ys) 0) (y ∷ ys) ∷ []
    by true h rest = absurd (cc)
    by false h rest =
        let next : suc (prefix_len (λ c. not (p c)) ys) ≡ 1 + prefix_len (λ c. not (p c)) ys = omega arith in
        ap (onto_first y) (rest (ap (λ k. drop k (y ∷ ys)) next ∙ h)) ∙ ap (λ k. take k (y ∷ ys) ∷ []) next

-- all words pass where the first passes and all behind it do
pub all_split : (q : List ℕ → Bool) (p : ℕ → Bool) (xs part behind others : List ℕ) (n x : ℕ) → n ≡ prefix_len (λ b. not (p b)) xs → part ≡ take n xs → behind ≡ drop n xs → behind ≡ x ∷ others
    → list_all q (slice_split p xs) ≡ (q part && list_all q (slice_split p others))
all_split q p xs part behind others n x len front back cut =
    let found : drop (prefix_len (λ b. not (p b)) xs) xs ≡ x ∷ others = ap (λ k. drop k xs) (sym len) ∙ sym back ∙ cut in
    let word : take (prefix_len (λ b. not (p b)) xs) xs ≡ part = ap (λ k. take k xs) (sym len) ∙ sym front in
    ap (list_all q) (split_word p xs x others found) ∙ ap (λ w. q w && list_all q (slice_split p others)) word

-- all words pass where the first passes and it is the last
pub all_split_last : (q : List ℕ → Bool) (p : ℕ → Bool) (xs part behind : List ℕ) (n : ℕ) → n ≡ prefix_len (λ b. not (p b)) xs → part ≡ take n xs → behind ≡ drop n xs → behind ≡ []
    → list_all q (slice_split p xs) ≡ q part
all_split_last q p xs part behind n len front back cut =
    let found : drop (prefix_len (λ b. not (p b)) xs) xs ≡ [] = ap (λ k. drop k xs) (sym len) ∙ sym back ∙ cut in
    let word : take (prefix_len (λ b. not (p b)) xs) xs ≡ part = ap (λ k. take k xs) (sym len) ∙ sym front in
    ap (list_all q) (split_last p xs found) ∙ ap (λ w. q w && true) word ∙ and_true (q part)
  where
    and_true : (b : Bool) → (b && true) ≡ b
    and_true true = refl
    and_true false = refl

-- not all words pass where the first one fails
pub all_split_fails : (q : List ℕ → Bool) (p : ℕ → Bool) (xs part : List ℕ) (n : ℕ) → n ≡ prefix_len (λ b. not (p b)) xs → part ≡ take n xs → q part ≡ false → list_all q (slice_split p xs) ≡ false
all_split_fails q p xs part n len front fails = by (drop n xs) refl
  where
    by : (behind : List ℕ) → drop n xs ≡ behind → list_all q (slice_split p xs) ≡ false
    by [] e = all_split_last q p xs part [] n len front (sym e) refl ∙ fails
    by (x ∷ others) e = all_split q p xs part (x ∷ others) others n x len front (sym e) refl ∙ ap (λ b. b && list_all q (slice_split p others)) fails

-- nothing is left where the length is nothing
pub none_left : (xs : List ℕ) → length xs ≡ 0 → xs ≡ []
none_left [] e = refl
none_left (x ∷ xs) e = absurd (omega (arith, e))
