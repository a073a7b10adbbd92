use Rattle.np_listing.proofs.Prelude.{append_assoc}
use Rattle.np_listing.proofs.fates.put_fates.Goals as goal

pub returns : goal.returns
returns g c =
    rw (c.in_ok-put_fate-5.ensures, c.in_ok-put_fate-4.ensures, c.in_ok-put_fate-3.ensures, c.in_ok-put_fate-2.ensures, c.in_ok-put_fate.ensures, c.in_ok-put_all.ensures) (simp append_assoc)
