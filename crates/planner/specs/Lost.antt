-- None among the credits of a course: it stays there, it does not hang on the gain, and by it the choice between two courses is decided.
use Rattle.std.specs.Prelude.{◌≡◌, Bool, ◌&&◌, ℕ, ◌+◌, ℤ, pos, Option, None}
use Rattle.std.proofs.Math.Path.{refl, sym, ap}
use Rattle.std.proofs.Math.Bool.{true, false}
use mathlib.Core.List.{List, [], ◌∷◌}
use Rattle.curve.specs.Worth.{defined}
use Rattle.gus.specs.declared.Course.{Course}
use Rattle.gus.specs.View.{View}
use Rattle.gus.specs.Course.{earned, onward, to_free, to_end, denser}
use Rattle.gus.specs.Choice.{reckon, preferred}

-- a course without none among its credits
abbrev pub credited : ℕ → ℤ → Course
credited time gain = record { time = time; gain = gain; inside = true }

and-false : (d : Bool) → d && false ≡ false
and-false true = refl
and-false false = refl

module _ (v : View) (t : ℕ) where
  pub lost-onward : (i : ℕ) (b : Bool) (n : ℕ) (c : Course) → c.inside ≡ false → (onward v t i b n c).inside ≡ false
  unfolding onward
  lost-onward i b n c e = rw e (and-false (defined (earned v i b n (t + (c.time + n)))))

  pub lost-reckon : (l : List ℕ) (c : Course) → c.inside ≡ false → (reckon v t l c).inside ≡ false
  unfolding reckon to_free to_end
  lost-reckon [] c e = e
  lost-reckon (i ∷ []) c e = lost-onward i (v.rolling i) _ c e
  lost-reckon (i ∷ x ∷ l) c e = lost-reckon (x ∷ l) (to_free v t i x (v.rolling i) c) (lost-onward i (v.rolling i) _ c e)

  -- by a part that earns none a course is lost
  pub lost-by : (i : ℕ) (b : Bool) (n : ℕ) (c : Course) → None ≡ earned v i b n (t + (c.time + n)) → (onward v t i b n c).inside ≡ false
  unfolding onward
  lost-by i b n c e = ap (λ (w : Option ℤ). defined w && c.inside) (sym e)

  -- two courses of one time and one inside go on alike, whatever they have gained
  pub record Alike (c d : Course) : Type 0 where
    pub time : c.time ≡ d.time
    pub inside : c.inside ≡ d.inside

  alike-onward : (i : ℕ) (b : Bool) (n : ℕ) {c d : Course} → Alike c d → Alike (onward v t i b n c) (onward v t i b n d)
  unfolding onward
  alike-onward i b n {c} {d} a = record {
    time = ap (λ (x : ℕ). x + n) a.time;
    inside = λ k. defined (earned v i b n (t + (a.time k + n))) && a.inside k;
  }

  pub alike-reckon : (l : List ℕ) {c d : Course} → Alike c d → (reckon v t l c).inside ≡ (reckon v t l d).inside
  unfolding reckon to_free to_end
  alike-reckon [] a = a.inside
  alike-reckon (i ∷ []) a = (alike-onward i (v.rolling i) _ a).inside
  alike-reckon (i ∷ x ∷ l) a = alike-reckon (x ∷ l) (alike-onward i (v.rolling i) _ a)

  -- whether these go on inside their curves after so much time, each in its own mode
  unfoldable pub inside_after : List ℕ → ℕ → Bool
  inside_after l time = (reckon v t l (credited time (pos 0))).inside

  pub inside-after : (l : List ℕ) (time : ℕ) (gain : ℤ) → inside_after l time ≡ (reckon v t l (credited time gain)).inside
  unfolding inside_after
  inside-after l time gain = alike-reckon l (record { time = refl; inside = refl })

-- "a course with none among its credits loses to one without, and if both have it normal wins"
module _ (back normal : Course) where
  pub back-lost : back.inside ≡ false → false ≡ preferred back normal
  unfolding preferred
  back-lost e = rw (e, preferred)

  pub normal-lost : normal.inside ≡ false → back.inside ≡ preferred back normal
  unfolding preferred
  normal-lost e = rw e (by back.inside)
    where
      by : (b : Bool) → b ≡ elim b as (λ _. Bool) [ true ↦ true | false ↦ false ]
      by true = refl
      by false = refl

  pub neither-lost : back.inside ≡ true → normal.inside ≡ true → denser back normal ≡ preferred back normal
  unfolding preferred
  neither-lost e q = sym (λ d. elim (e d) [ true ↦ elim (q d) [ true ↦ denser back normal | false ↦ true ] | false ↦ false ])
