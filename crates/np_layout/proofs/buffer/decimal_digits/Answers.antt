use Rattle.np_layout.proofs.Prelude.{ap, arith, decimal, drop, length, length-set, sym, ◌%◌, ◌++◌, ◌+◌, ◌/◌, ◌<◌, ◌∙◌}
use Rattle.std.proofs.Common.{set}
use Rattle.np_layout.proofs.Names.{decimal-last, decimal-more, fits-more, place-more}
use Rattle.np_layout.proofs.buffer.decimal_digits.Goals as goal

pub loop-rest-preserved : goal.loop-rest-preserved
loop-rest-preserved c =
    let known = c.loop-rest.invariant in
    let many = c.loop-rest-test.true in
    let place = place-more c.loop-rest.rest c.loop-rest.at many known.fits in
    let within : c.loop-rest.at < length c.loop-rest.digits = omega (arith, known.long, known.within) in
    record {
      text = ap (λ k. decimal (c.loop-rest.rest / 10) ++ drop k (set c.loop-rest.digits c.loop-rest.at (48 + c.loop-rest.rest % 10))) place
          ∙ sym (decimal-more c.loop-rest.rest c.loop-rest.at c.loop-rest.digits many (omega arith) within)
          ∙ known.text;
      within = omega (arith, known.within);
      fits = fits-more c.loop-rest.rest c.loop-rest.at many known.fits;
      long = length-set c.loop-rest.digits c.loop-rest.at _ ∙ known.long;
    }

pub returns-clause-digits : goal.returns-clause-digits
returns-clause-digits c =
    let known = c.loop-rest.invariant in
    let within : c.loop-rest.at < length c.loop-rest.digits = omega (arith, known.long, known.within) in
    sym (decimal-last c.loop-rest.rest c.loop-rest.at c.loop-rest.digits c.loop-rest-test.false within) ∙ known.text
