use Rattle.np_static.proofs.Prelude.{HostLine, List, Ok, arith, hosts_read, length, subst, sym, ◌∙◌, ◌≡◌}
use Rattle.np_static.proofs.Sites.{read-of, said_at}
use Rattle.np_static.proofs.law.each_pool_has_its_driver.Goals as goal

pub returns-clause-count : goal.returns-clause-count
returns-clause-count d = λ c bytes sites are. (read-of c (hosts_read (length c.pools) bytes) sites are).2.count

pub returns-clause-each : goal.returns-clause-each
returns-clause-each d = λ c bytes lines sites read are p pool site at found.
    let it = read-of c (hosts_read (length c.pools) bytes) sites are in
    let both : Ok it.0 ≡ Ok lines = sym it.1 ∙ read in
    let same : it.0 ≡ lines = cc in
    subst (λ (l : List HostLine). said_at c l p.0 pool ≡ Ok site) same (it.2.each p.0 p.0 pool site (omega arith) at found)

pub returns-clause-fresh : goal.returns-clause-fresh
returns-clause-fresh d = λ c bytes sites are. (read-of c (hosts_read (length c.pools) bytes) sites are).2.fresh
