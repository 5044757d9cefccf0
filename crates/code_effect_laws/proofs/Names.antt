-- Lists of declared names that gain a name at their end, or lose one.
use Rattle.std.proofs.Common.{◌≡◌, Bool, true, false, not, cond, List, [], ◌∷◌, ◌++◌, filter, refl, sym, ap, ◌∙◌, true≢false, append_assoc}
use Rattle.std.specs.Prelude.{◌||◌, if◌then◌else◌}
use Rattle.std.specs.List.{list_any}
use Rattle.std.proofs.lemmas.Bool.{or_parts}
use Rattle.std.proofs.lemmas.List.Folds.{list_any-append}
use Rattle.rb_base.specs.Names.{text_eq}
use Rattle.scope_model.specs.Scope.{is_among}
use Rattle.grammar_model.specs.Checks.{Known, is_fixed}
use Rattle.reread_law.specs.WellFormed.{IsWord, AllWords}
use Rattle.reread_law.specs.Declarations.{repeats, known_names}
use Rattle.file_model.specs.Filing.{Text}
use Rattle.file_laws.proofs.Moves.{text_equal}
use Rattle.code_effect_laws.proofs.Known.{behind-both}

-- identifiers
pub words_last : (ns : List Text) (x : Text) → AllWords ns → IsWord x → AllWords (ns ++ x ∷ [])
words_last [] x w v = (v, tt)
words_last (n ∷ ns) x w v = (w.0, words_last ns x w.1 v)

pub words_fewer : (p : Text → Bool) (ns : List Text) → AllWords ns → AllWords (filter p ns)
words_fewer p [] w = tt
words_fewer p (n ∷ ns) w = by (p n) (words_fewer p ns w.1)
  where
    by : (b : Bool) → AllWords (filter p ns) → AllWords (cond b (n ∷ filter p ns) (filter p ns))
    by true rest = (w.0, rest)
    by false rest = rest

-- a new name at the end is declared once
last_once : (seen ns : List Text) (x : Text) → repeats seen ns ≡ false → list_any (text_eq x) seen ≡ false → list_any (text_eq x) ns ≡ false → repeats seen (ns ++ x ∷ []) ≡ false
last_once seen [] x r a b = λ i. a i || false
last_once seen (n ∷ ns) x r a b =
    let p = or_parts (list_any (text_eq n) seen) (repeats (n ∷ seen) ns) r in
    let q = or_parts (text_eq x n) (list_any (text_eq x) ns) b in
    λ i. p.0 i || last_once (n ∷ seen) ns x p.1 (λ j. q.0 j || a j) q.1 i

pub once_last : (ps ts : List Text) (x : Text) → repeats [] (ps ++ ts) ≡ false → list_any (text_eq x) ps ≡ false → list_any (text_eq x) ts ≡ false → repeats [] (ps ++ (ts ++ x ∷ [])) ≡ false
once_last ps ts x r a b =
    ap (repeats []) (sym (append_assoc ps ts (x ∷ []))) ∙ last_once [] (ps ++ ts) x r refl (list_any-append (text_eq x) ps ts ∙ (λ i. a i || b i))

-- it is one that may be assigned
last_among : (ts : List Text) (x : Text) → text_eq x x ≡ true → is_among text_eq (ts ++ x ∷ []) x ≡ true
last_among [] x e = λ i. e i || false
last_among (t ∷ ts) x e = ap (λ b. text_eq x t || b) (last_among ts x e) ∙ by (text_eq x t)
  where
    by : (b : Bool) → (b || true) ≡ true
    by true = refl
    by false = refl

pub last_free : (ps ts : List Text) (ks : List Known) (x : Text) → text_eq x x ≡ true → list_any (text_eq x) ps ≡ false → is_fixed (known_names ps (ts ++ x ∷ []) ++ ks) x ≡ false
last_free ps ts ks x e a = behind-both ps (ts ++ x ∷ []) ks x ∙ (λ i. if a i then true else if last_among ts x e i then false else is_fixed ks x)

-- and so are those that were
pub last_loose : (ps ts : List Text) (ks : List Known) (x n : Text) → list_any (text_eq x) ps ≡ false → is_fixed (known_names ps ts ++ ks) n ≡ false → is_fixed (known_names ps (ts ++ x ∷ []) ++ ks) n ≡ false
last_loose ps ts ks x n a free =
    behind-both ps (ts ++ x ∷ []) ks n
    ∙ ap (λ b. if is_among text_eq ps n then true else if b then false else is_fixed ks n) (list_any-append (text_eq n) ts (x ∷ []))
    ∙ by (is_among text_eq ps n) (is_among text_eq ts n) (is_among text_eq (x ∷ []) n) (is_fixed ks n) (sym (behind-both ps ts ks n) ∙ free)
  where
    by : (a b c d : Bool) → (if a then true else if b then false else d) ≡ false → (if a then true else if b || c then false else d) ≡ false
    by true b c d e = e
    by false true c d e = refl
    by false false true d e = refl
    by false false false d e = e

-- fewer names are declared once where more are
seen_less : (ns seen more : List Text) → ((y : Text) → list_any (text_eq y) more ≡ false → list_any (text_eq y) seen ≡ false) → repeats more ns ≡ false → repeats seen ns ≡ false
seen_less [] seen more h r = refl
seen_less (n ∷ ns) seen more h r =
    let p = or_parts (list_any (text_eq n) more) (repeats (n ∷ more) ns) r in
    λ i. h n p.0 i || seen_less ns (n ∷ seen) (n ∷ more) (λ y q. (let a = or_parts (text_eq y n) (list_any (text_eq y) more) q in (λ j. a.0 j || h y a.1 j))) p.1 i

fewer_once : (p : Text → Bool) (ns seen : List Text) → repeats seen ns ≡ false → repeats seen (filter p ns) ≡ false
fewer_once p [] seen r = refl
fewer_once p (n ∷ ns) seen r = by (p n) (λ more. fewer_once p ns more)
  where
    parts : (list_any (text_eq n) seen ≡ false) × (repeats (n ∷ seen) ns ≡ false)
    parts = or_parts (list_any (text_eq n) seen) (repeats (n ∷ seen) ns) r

    by : (b : Bool) → ((more : List Text) → repeats more ns ≡ false → repeats more (filter p ns) ≡ false) → repeats seen (cond b (n ∷ filter p ns) (filter p ns)) ≡ false
    by true rest = λ i. parts.0 i || rest (n ∷ seen) parts.1 i
    by false rest = rest seen (seen_less ns seen (n ∷ seen) (λ y q. (or_parts (text_eq y n) (list_any (text_eq y) seen) q).1) parts.1)

pub once_fewer : (p : Text → Bool) (ps ts seen : List Text) → repeats seen (ps ++ ts) ≡ false → repeats seen (ps ++ filter p ts) ≡ false
once_fewer p [] ts seen r = fewer_once p ts seen r
once_fewer p (n ∷ ps) ts seen r =
    let a = or_parts (list_any (text_eq n) seen) (repeats (n ∷ seen) (ps ++ ts)) r in λ i. a.0 i || once_fewer p ps ts (n ∷ seen) a.1 i

-- a name that is lost from a list is the one that goes
lost_name : (x n : Text) (ts : List Text) → is_among text_eq ts n ≡ true → is_among text_eq (filter (λ y. not (text_eq x y)) ts) n ≡ false → x ≡ n
lost_name x n [] there gone = absurd (true≢false (sym there))
lost_name x n (t ∷ ts) there gone = by (text_eq x t) refl gone (lost_name x n ts)
  where
    last : (c : Bool) → text_eq n t ≡ c → text_eq x t ≡ true → (is_among text_eq ts n ≡ true → x ≡ n) → x ≡ n
    last true q r rest = text_equal x t r ∙ sym (text_equal n t q)
    last false q r rest = rest (ap (λ z. z || is_among text_eq ts n) (sym q) ∙ there)

    by : (b : Bool) → text_eq x t ≡ b → is_among text_eq (cond (not b) (t ∷ filter (λ y. not (text_eq x y)) ts) (filter (λ y. not (text_eq x y)) ts)) n ≡ false
        → (is_among text_eq ts n ≡ true → is_among text_eq (filter (λ y. not (text_eq x y)) ts) n ≡ false → x ≡ n) → x ≡ n
    by true q g rest = last (text_eq n t) refl q (λ h. rest h g)
    by false q g rest =
        let a = or_parts (text_eq n t) (is_among text_eq (filter (λ y. not (text_eq x y)) ts) n) g in rest (ap (λ z. z || is_among text_eq ts n) (sym a.0) ∙ there) a.1

-- where one goes that no scope outside declares, the others may be assigned as before
pub fewer_loose : (ps ts : List Text) (ks : List Known) (x n : Text) → (list_any (text_eq x) ts ≡ true → is_fixed ks x ≡ false) → is_fixed (known_names ps ts ++ ks) n ≡ false
    → is_fixed (known_names ps (filter (λ y. not (text_eq x y)) ts) ++ ks) n ≡ false
fewer_loose ps ts ks x n outside free =
    behind-both ps (filter (λ y. not (text_eq x y)) ts) ks n
    ∙ by (is_among text_eq ps n) (is_among text_eq (filter (λ y. not (text_eq x y)) ts) n) refl (is_among text_eq ts n) refl (sym (behind-both ps ts ks n) ∙ free)
  where
    by : (a c : Bool) → is_among text_eq (filter (λ y. not (text_eq x y)) ts) n ≡ c → (b : Bool) → is_among text_eq ts n ≡ b → (if a then true else if b then false else is_fixed ks n) ≡ false → (if a then true else if c then false else is_fixed ks n) ≡ false
    by true c q b r e = e
    by false true q b r e = refl
    by false false q false r e = e
    by false false q true r e =
        let same : x ≡ n = lost_name x n ts r q in ap (is_fixed ks) (sym same) ∙ outside (ap (λ y. list_any (text_eq y) ts) same ∙ r)
