-- Arguments of definitions.
use Rattle.std.proofs.Common.{◌≡◌, ℕ, false, true≢false, List, [], ◌∷◌, length, Some, None, refl, sym, ap, ◌∙◌}
use Rattle.std.specs.Prelude.{◌==◌, Option, option_map}
use Rattle.tree_model.specs.Tree.{TreeOf, map_names, map_trees, trees_of}
use Rattle.file_model.specs.Filing.{Text}
use Rattle.file_model.specs.Forms as forms
use Rattle.file_model.specs.Forms.{argument_of, arguments_of, the_argument, DefinitionStrings}
use Rattle.chunk_forms.specs.declared.sent.Argument.{Argument}
use Rattle.chunk_forms.specs.Told.{argument_text, FirstOf, symbol_first, string_first}
use Rattle.chunk_forms.proofs.Strings.{string_is}
use Rattle.import_model.specs.Foreign.{Ending, ending_of, foreign_strings}

-- what is no string has no text of one
no_text : (P : Text → Type 0) (a : Argument) → ((u : Text) → argument_text a ≡ forms.String u → P u) → (x : forms.Argument) → x ≡ argument_text a → (u : Text) → x ≡ forms.String u → P u
no_text P a h x e u is = h u (sym e ∙ is)

-- where one argument follows that is no string, there is no ending
one_ending : (s k : Text) (x : forms.Argument) → ((u : Text) → x ≡ forms.String u → ⊥) → None ≡ ending_of s k (x ∷ [])
one_ending s k (forms.Symbol t) n = refl
one_ending s k (forms.String t) n = absurd (n t refl)
one_ending s k (forms.Numeral t) n = refl
one_ending s k forms.Other n = refl

-- nor is there one where two follow
two_ending : (s k : Text) (x y : forms.Argument) (xs : List forms.Argument) → None ≡ ending_of s k (x ∷ y ∷ xs)
two_ending s k (forms.Symbol t) y xs = refl
two_ending s k (forms.String t) y xs = refl
two_ending s k (forms.Numeral t) y xs = refl
two_ending s k forms.Other y xs = refl

-- the arguments behind the first string of an ending
pub no_ending : (f : ℕ → List ℕ) (s k : Text) (others : List (TreeOf ℕ)) (a : Argument) → (length others == 0) ≡ false → the_argument (arguments_of (map_trees f (trees_of others))) ≡ argument_text a
    → ((u : Text) → argument_text a ≡ forms.String u → ⊥) → None ≡ ending_of s k (arguments_of (map_trees f (trees_of others)))
no_ending f s k [] a some is n = absurd (true≢false some)
no_ending f s k (t ∷ []) a some is n = one_ending s k (argument_of (map_names f t)) (no_text (λ u. ⊥) a n (argument_of (map_names f t)) is)
no_ending f s k (t ∷ u ∷ us) a some is n = two_ending s k (argument_of (map_names f t)) (argument_of (map_names f u)) (arguments_of (map_trees f (trees_of us)))

-- arguments that begin with a symbol
symbol_is : (xs : List forms.Argument) (r : FirstOf) → Some r ≡ symbol_first xs → xs ≡ forms.Symbol r.text ∷ r.others
symbol_is [] r e = absurd (cc)
symbol_is (forms.Symbol t ∷ xs) r e = cc
symbol_is (forms.String t ∷ xs) r e = absurd (cc)
symbol_is (forms.Numeral t ∷ xs) r e = absurd (cc)
symbol_is (forms.Other ∷ xs) r e = absurd (cc)

-- a symbol, three strings and an ending
pub strings_found : (sel : Text) (xs : List forms.Argument) (n i v k : FirstOf) (e : Ending) → Some n ≡ symbol_first xs → Some i ≡ string_first n.others → Some v ≡ string_first i.others → Some k ≡ string_first v.others
    → Some e ≡ ending_of sel k.text k.others → ◌≡◌ {A = Option DefinitionStrings} (Some (record { name = n.text; instance = i.text; shared = v.text; pools = e.pools; category = e.category })) (foreign_strings sel xs)
strings_found sel xs n i v k e a b c d is =
    let whole : xs ≡ forms.Symbol n.text ∷ forms.String i.text ∷ forms.String v.text ∷ forms.String k.text ∷ k.others =
    symbol_is xs n a
    ∙ ap (λ ys. forms.Symbol n.text ∷ ys) (string_is n.others i b
    ∙ ap (λ ys. forms.String i.text ∷ ys) (string_is i.others v c
    ∙ ap (λ ys. forms.String v.text ∷ ys) (string_is v.others k d))) in
    sym (ap (foreign_strings sel) whole ∙ ap (option_map (λ (x : Ending). record { name = n.text; instance = i.text; shared = v.text; pools = x.pools; category = x.category })) (sym is))
