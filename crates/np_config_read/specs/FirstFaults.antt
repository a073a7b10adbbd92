-- texts and the first fault of each, for reading: the kinds, which of two comes first, and where it is (own)
use Rattle.std.specs.Prelude.{◌≡◌, ℕ, ◌==◌, List, [], ◌∷◌, ◌++◌, codes, map, if◌then◌else◌, Err}
use Rattle.np_config_read.specs.Walk.{reads}
use Rattle.np_config_read.specs.Lower.{BadName, ConfigKind, Missing, NotJson, OutOfRange, Repeated, UnknownKey, UnknownName, WrongType, fault}

pub record Faulty : Type 0 where
  pub text : List ℕ
  pub kind : ConfigKind
  pub pointer : List ℕ

abbrev pub HasFirstFault : Faulty → Type 0
HasFirstFault f = reads f.text ≡ Err (fault f.kind f.pointer)

-- JSON, written with `'` for `"`
abbrev pub json : List ℕ → List ℕ
json text = map (λ b. if b == 39 then 34 else b) text

abbrev faulty : List ℕ → ConfigKind → List ℕ → Faulty
faulty text kind pointer = record { text = json text; kind = kind; pointer = pointer }

-- the top object and labels: at an object its kind, then a key that means nothing, then each key in order
abbrev pub faulty_labels : List Faulty
faulty_labels =
    faulty (codes "[") NotJson []
    ∷ faulty (codes "[]") WrongType []
    ∷ faulty (codes "{'colour':[]}") UnknownKey []
    ∷ faulty (codes "{}") Missing (codes "/labels")
    ∷ faulty (codes "{'labels':[]}") Missing (codes "/providers")
    ∷ faulty (codes "{'labels':[],'max-hold-age':1000001,'providers':{}}") OutOfRange (codes "/max-hold-age")
    ∷ faulty (codes "{'labels':[],'providers':{}}") WrongType (codes "/providers")
    ∷ faulty (codes "{'labels':[],'providers':[]}") OutOfRange (codes "/providers")
    ∷ faulty (codes "{'labels':[{'name':'a','colour':1}]}") UnknownKey (codes "/labels/0")
    ∷ faulty (codes "{'labels':[{'min-ready':-1}]}") Missing (codes "/labels/0/name")
    ∷ faulty (codes "{'labels':[{'name':7}]}") WrongType (codes "/labels/0/name")
    ∷ faulty (codes "{'labels':[{'name':''}]}") BadName (codes "/labels/0/name")
    ∷ faulty (codes "{'labels':[{'name':'a b'}]}") BadName (codes "/labels/0/name")
    ∷ faulty (codes "{'labels':[{'name':'a'},{'name':'a'}]}") Repeated (codes "/labels/1/name")
    ∷ faulty (codes "{'labels':[{'name':'a','min-ready':-1}]}") WrongType (codes "/labels/0/min-ready")
    ∷ faulty (codes "{'labels':[{'name':'a','min-ready':-0}]}") WrongType (codes "/labels/0/min-ready")
    ∷ faulty (codes "{'labels':[{'name':'a','min-ready':1.0}]}") WrongType (codes "/labels/0/min-ready")
    ∷ faulty (codes "{'labels':[{'name':'a','min-ready':1e0}]}") WrongType (codes "/labels/0/min-ready")
    ∷ faulty (codes "{'labels':[{'name':'a','min-ready':18446744073709551616}]}") WrongType (codes "/labels/0/min-ready")
    ∷ faulty (codes "{'labels':[{'name':'a','min-ready':null}]}") WrongType (codes "/labels/0/min-ready")
    ∷ faulty (codes "{'labels':[{'name':'a','min-ready':1001}]}") OutOfRange (codes "/labels/0/min-ready")
    ∷ []

-- one label, and one pool that offers it and has more members; a later one of two equal keys counts
abbrev with_pool : List ℕ → List ℕ
with_pool more = codes "{'labels':[{'name':'a'}],'providers':[{'name':'c','pools':[{'name':'m','labels':[{'name':'a'}]" ++ more ++ codes "}]}]}"

-- pools
abbrev pub faulty_pools : List Faulty
faulty_pools =
    faulty (with_pool (codes ",'max-servers':-1")) WrongType (codes "/providers/0/pools/0/max-servers")
    ∷ faulty (with_pool (codes ",'max-cores':1000000001")) OutOfRange (codes "/providers/0/pools/0/max-cores")
    ∷ faulty (with_pool (codes ",'labels':[{'name':'b'}]")) UnknownName (codes "/providers/0/pools/0/labels/0/name")
    ∷ faulty (with_pool (codes ",'labels':[{'name':'a'},{'name':'a'}]")) Repeated (codes "/providers/0/pools/0/labels/1/name")
    ∷ faulty (with_pool (codes ",'labels':[{'name':'a','cores':1001}]")) OutOfRange (codes "/providers/0/pools/0/labels/0/cores")
    ∷ faulty (with_pool (codes ",'fail-starts':[0]")) OutOfRange (codes "/providers/0/pools/0/fail-starts/0")
    ∷ faulty (with_pool (codes ",'fail-starts':[2,2]")) OutOfRange (codes "/providers/0/pools/0/fail-starts/1")
    ∷ []

-- one label and one pool, and more members of the top
abbrev with_top : List ℕ → List ℕ
with_top more = codes "{'labels':[{'name':'a'}],'providers':[{'name':'c','pools':[{'name':'m','labels':[{'name':'a'}]}]}]," ++ more ++ codes "}"

-- semaphores and requesters with their jobs
abbrev pub faulty_requesters : List Faulty
faulty_requesters =
    faulty (with_top (codes "'semaphores':[{'name':'s','max':0}]")) OutOfRange (codes "/semaphores/0/max")
    ∷ faulty (with_top (codes "'requesters':[{'name':'z','window':0}]")) OutOfRange (codes "/requesters/0/window")
    ∷ faulty (with_top (codes "'requesters':[{'name':'z','jobs':[{'name':'j'}]}]")) Missing (codes "/requesters/0/jobs/0/labels")
    ∷ faulty (with_top (codes "'requesters':[{'name':'z','jobs':[{'name':'j','labels':[]}]}]")) OutOfRange (codes "/requesters/0/jobs/0/labels")
    ∷ faulty (with_top (codes "'requesters':[{'name':'z','jobs':[{'name':'j','labels':['b']}]}]")) UnknownName (codes "/requesters/0/jobs/0/labels/0")
    ∷ faulty (with_top (codes "'requesters':[{'name':'z','jobs':[{'name':'j','labels':['a'],'priority':'top'}]}]")) UnknownName (codes "/requesters/0/jobs/0/priority")
    ∷ faulty (with_top (codes "'semaphores':[{'name':'s'}],'requesters':[{'name':'z','jobs':[{'name':'j','labels':['a'],'semaphores':['s','s']}]}]")) Repeated (codes "/requesters/0/jobs/0/semaphores/1")
    ∷ []

-- tenants with their limits, and the tenants of jobs
abbrev pub faulty_tenants : List Faulty
faulty_tenants =
    faulty (with_top (codes "'semaphores':[{'name':'s','max':0}],'tenants':{}")) OutOfRange (codes "/semaphores/0/max")
    ∷ faulty (with_top (codes "'tenants':{},'requesters':{}")) WrongType (codes "/tenants")
    ∷ faulty (with_top (codes "'tenants':[{'name':'t','cores':1}]")) UnknownKey (codes "/tenants/0")
    ∷ faulty (with_top (codes "'tenants':[{'max-servers':-1}]")) Missing (codes "/tenants/0/name")
    ∷ faulty (with_top (codes "'tenants':[{'name':'default'}]")) Repeated (codes "/tenants/0/name")
    ∷ faulty (with_top (codes "'tenants':[{'name':'t'},{'name':'t'}]")) Repeated (codes "/tenants/1/name")
    ∷ faulty (with_top (codes "'tenants':[{'name':'t','max-servers':-1}]")) WrongType (codes "/tenants/0/max-servers")
    ∷ faulty (with_top (codes "'tenants':[{'name':'t','max-ram':1000000001}]")) OutOfRange (codes "/tenants/0/max-ram")
    ∷ faulty (with_top (codes "'requesters':[{'name':'z','jobs':[{'name':'j','labels':['a'],'tenant':0}]}]")) WrongType (codes "/requesters/0/jobs/0/tenant")
    ∷ faulty (with_top (codes "'requesters':[{'name':'z','jobs':[{'name':'j','labels':['a'],'tenant':'t'}]}]")) UnknownName (codes "/requesters/0/jobs/0/tenant")
    ∷ []

-- planned faults: a pool is named by the names of its provider and its own
abbrev pub faulty_faults : List Faulty
faulty_faults =
    faulty (with_top (codes "'faults':[{'role':'reaper'}]")) UnknownName (codes "/faults/0/role")
    ∷ faulty (with_top (codes "'faults':[{'role':'launcher','name':'m'}]")) UnknownName (codes "/faults/0/name")
    ∷ faulty (with_top (codes "'faults':[{'role':'launcher','name':'c/m/m'}]")) UnknownName (codes "/faults/0/name")
    ∷ faulty (with_top (codes "'faults':[{'role':'requester','name':'c/m'}]")) UnknownName (codes "/faults/0/name")
    ∷ faulty (with_top (codes "'faults':[{'role':'janitor','name':'c/m','kind':'stop'}]")) Missing (codes "/faults/0/after")
    ∷ faulty (with_top (codes "'faults':[{'role':'janitor','name':'c/m','kind':'stop','after':262145}]")) OutOfRange (codes "/faults/0/after")
    ∷ []
