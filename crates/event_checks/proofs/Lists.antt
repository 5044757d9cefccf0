-- Lists of declarations and events, and first choices.
use Rattle.std.proofs.Common.{◌≡◌, ℕ, suc, ◌+◌, ◌<◌, Bool, true, false, if◌then◌else◌, List, [], ◌∷◌, ◌++◌, length, drop, get_or, Option, Some, None, refl, sym, ap, ◌∙◌, append_assoc, arith}
use Rattle.std.specs.Prelude.{is_some}
use Rattle.std.proofs.Math.Seq.{drop-cons}
use Rattle.parse_events.specs.declared.event.Declaration.{Declaration}
use Rattle.std.specs.Option.{option_or}
use Rattle.grammar_model.specs.Spanned.{Declared}
use Rattle.grammar_model.specs.Checks.{known_of}
use Rattle.parse_events.specs.declared.event.Event.{Event}
use Rattle.parse_events.specs.Found.{declarations}
use Rattle.event_checks.specs.Lists.{declared}

-- the declarations of a list are those of the list
pub declared_again : (ds : List Declared) → declared (declarations ds) ≡ ds
declared_again [] = refl
declared_again (d ∷ ds) = ap (λ (es : List Declared). d ∷ es) (declared_again ds)

-- the same of two parts
pub both_again : (ps ds : List Declared) → declared (declarations ps) ++ declared (declarations ds) ≡ ps ++ ds
both_again ps ds = λ i. declared_again ps i ++ declared_again ds i

-- the same of the names that two parts let be known
pub known_again : (ps ds : List Declared) → known_of (declared (declarations ps)) (declared (declarations ds)) ≡ known_of ps ds
known_again ps ds = λ i. known_of (declared_again ps i) (declared_again ds i)

-- first choices of three
pub option_or_assoc : {A : Type 0} (a b c : Option A) → option_or (option_or a b) c ≡ option_or a (option_or b c)
option_or_assoc None b c = refl
option_or_assoc (Some x) b c = refl

-- nothing as the second choice
pub option_or_none : {A : Type 0} (a : Option A) → option_or a None ≡ a
option_or_none None = refl
option_or_none (Some x) = refl

-- a first choice under a condition
pub option_or_if : (b : Bool) (f : ℕ) (x y : Option ℕ) → option_or (if b then Some f else None) (option_or x y) ≡ option_or (if b then Some f else x) y
option_or_if true f x y = refl
option_or_if false f x y = refl

-- the same with one choice behind it
pub option_or_if_one : (b : Bool) (f : ℕ) (x : Option ℕ) → option_or (if b then Some f else None) x ≡ if b then Some f else x
option_or_if_one true f x = refl
option_or_if_one false f x = refl

-- an event behind some
pub last_of : (es : List Event) (e : Event) (rest : List Event) → (es ++ e ∷ []) ++ rest ≡ es ++ e ∷ rest
last_of es e rest = append_assoc es (e ∷ []) rest

-- an event behind two parts
pub last_of_two : (es fs : List Event) (e : Event) (rest : List Event) → ((es ++ fs) ++ e ∷ []) ++ rest ≡ es ++ (fs ++ e ∷ rest)
last_of_two es fs e rest = append_assoc (es ++ fs) (e ∷ []) rest ∙ append_assoc es fs (e ∷ rest)

-- the list of two parts that declare these names
pub list_is : (first second : List Declaration) (ps ds : List Declared) → first ≡ declarations ps → second ≡ declarations ds → declared first ++ declared second ≡ ps ++ ds
list_is first second ps ds e f = (λ i. declared (e i) ++ declared (f i)) ∙ both_again ps ds

-- what two parts that declare these names let be known
pub known_is : (first second : List Declaration) (ps ds : List Declared) → first ≡ declarations ps → second ≡ declarations ds → known_of (declared first) (declared second) ≡ known_of ps ds
known_is first second ps ds e f = (λ i. known_of (declared (e i)) (declared (f i))) ∙ known_again ps ds

-- the element at an index begins what is left there
pub drop_here : {A : Type 0} (xs : List A) (i : ℕ) (x : A) → i < length xs → x ≡ get_or xs i x → drop i xs ≡ x ∷ drop (i + 1) xs
drop_here xs i x h is =
    let next : suc i ≡ i + 1 = omega arith in
    drop-cons xs i x h ∙ ap (λ y. y ∷ drop (suc i) xs) (sym is) ∙ ap (λ (n : ℕ). x ∷ drop n xs) next

-- the first of two choices
pub first_chosen : (a x y : Option ℕ) → is_some a ≡ true → a ≡ x → a ≡ option_or x y
first_chosen None x y some e = cc
first_chosen (Some v) x y some e = ap (λ (o : Option ℕ). option_or o y) e

-- the second of two choices
pub second_chosen : (a b x y : Option ℕ) → is_some a ≡ false → a ≡ x → b ≡ y → b ≡ option_or x y
second_chosen None b x y none e f = f ∙ ap (λ (o : Option ℕ). option_or o y) e
second_chosen (Some v) b x y none e f = cc

-- a list without elements
pub none_left : {A : Type 0} (xs : List A) → length xs ≡ 0 → xs ≡ []
none_left [] e = refl
none_left (x ∷ xs) e = absurd (omega arith)
