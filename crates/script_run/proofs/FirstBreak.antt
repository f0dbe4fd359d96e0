-- The first byte 10 of bytes, as a search of many bytes at once tells it.
use Rattle.std.proofs.Common.{◌≡◌, ℕ, ◌<◌, List, length, get_or, get_or-take, take, length-take, sym, ◌∙◌, arith, Option, Some, None}
use Rattle.std.specs.Option.{IfSome, IfNone}
use Rattle.std.proofs.lemmas.Bool.{eqb-true, eq-eqb}
use Rattle.memchr.specs.Find.{IsFirstByte, is_byte}
use Rattle.call_script.specs.Lines.{NoBreak}

module _ (bytes : List ℕ) where
  pub break_found : (r : Option ℕ) → IsFirstByte (is_byte 10) bytes r → IfSome r (λ i. (i < length bytes) × (get_or bytes i 0 ≡ 10) × NoBreak (take i bytes))
  break_found None first = tt
  break_found (Some i) first = (
    first.0.high,
    eqb-true _ _ first.1,
    record {
      none = λ k below here.
          let less : k < i = omega (arith, below, length-take i bytes) in
          let same : get_or bytes k 0 ≡ 10 = sym (get_or-take i bytes k 0 less) ∙ here in
          first.0.before k (omega arith) less (eq-eqb _ _ same);
    },
  )

  pub no_break : (r : Option ℕ) → IsFirstByte (is_byte 10) bytes r → IfNone r (NoBreak bytes)
  no_break None first = record { none = λ k below here. first k (omega arith) below (eq-eqb _ _ here) }
  no_break (Some i) first = tt
