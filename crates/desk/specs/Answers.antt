-- What the desk's code answers, by the definition.
use Rattle.definition.specs.Places as places
use Rattle.desk.specs.declared.Verdict.{Verdict}

unfoldable pub verdict_of : Verdict → places.Verdict
verdict_of v = record { number = v.number; method = v.method; point = v.point }
