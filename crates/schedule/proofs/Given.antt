-- A record of constants gives the set that it is made of: each number fits its bytes, and is read where it was written.
use Prim.Native.Nat.{◌<◌}
use mathlib.Core.Bool.{true}
use mathlib.Core.List.{[]}
use mathlib.Core.Path.{◌≡◌}
use native.Mathlib.Omega.{arith}
use borrow.Author.Tests.{leb-true}
use Rattle.std.specs.Cmp.{first_so}
use Rattle.wire.specs.Bytes.{u16_at, u32_at}
use Rattle.wire.proofs.Bools.{range}
use Rattle.wire.proofs.Bytes.{u16_again, u32_again}
use Rattle.wire.proofs.Choose.{each}
use Rattle.rules.specs.Constants.{in_range, in_order, is_lawful}
use Rattle.rules.specs.declared.Rules.{Rules}
use Rattle.records.specs.Fields.{constants_fields}
use Rattle.lookup.specs.InForce.{rules_of}
use Rattle.schedule.specs.Example.{EverySet}

-- a lawful set's numbers fit their bytes
record Fit (P : Rules) : Type 0 where
  edge1 : P.edge1 < 4294967296
  edge2 : P.edge2 < 4294967296
  edge3 : P.edge3 < 4294967296
  factor1 : P.factor1 < 65536
  factor2 : P.factor2 < 65536
  factor3 : P.factor3 < 65536
  severe : P.severe < 65536
  waivers : P.waivers < 65536
  dollars : P.dollars < 65536

fit : (P : Rules) → is_lawful P ≡ true → Fit P
unfolding in_range
fit P e =
    let h = each _ (first_so (in_range P) (in_order P) e) in
    let f = h.1.1.1 in
    let r = f.1.1.1 in
    record {
      edge1 = omega (arith, leb-true _ _ h.0);
      edge2 = omega (arith, leb-true _ _ h.1.0);
      edge3 = omega (arith, leb-true _ _ h.1.1.0);
      factor1 = omega (arith, (range 1 10 P.factor1 f.0).most);
      factor2 = omega (arith, (range 1 10 P.factor2 f.1.0).most);
      factor3 = omega (arith, (range 1 10 P.factor3 f.1.1.0).most);
      severe = omega (arith, (range 1 20 P.severe r.0).most);
      waivers = omega (arith, (range 0 99 P.waivers r.1.0).most);
      dollars = omega (arith, (range 1 10000 P.dollars r.1.1.0).most);
    }

pub every-set : EverySet
unfolding rules_of constants_fields u32_at u16_at
every-set P e closed rest =
    let t = fit P e in
    λ i.
    record {
      edge1 = u32_again P.edge1 [] t.edge1 i;
      edge2 = u32_again P.edge2 [] t.edge2 i;
      edge3 = u32_again P.edge3 [] t.edge3 i;
      factor1 = u16_again P.factor1 [] t.factor1 i;
      factor2 = u16_again P.factor2 [] t.factor2 i;
      factor3 = u16_again P.factor3 [] t.factor3 i;
      severe = u16_again P.severe [] t.severe i;
      waivers = u16_again P.waivers [] t.waivers i;
      dollars = u16_again P.dollars [] t.dollars i;
    }
