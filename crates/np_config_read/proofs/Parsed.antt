-- what bytes and literals are read as
use Rattle.np_config_read.proofs.Prelude.{Bool, Data, IsUtf8, IsUtf8-from_is_utf8, List, None, Some, chars, cond, configuration_at, demand_at, digits, false, fault_at, is_name_text, is_utf8, is_utf8-from_IsUtf8, items_from, job_at, job_row, jobs_at, label_at, label_for, label_row, label_value, limit_at, list_at, list_maybe, list_required, name_at, named_at, new_name, offer_amount, offer_at, offer_label, offers_at, parsed, pool_at, pool_row, pools_at, provider_at, provider_row, read, reads, refl, requester_at, requester_row, required_word, role_at, semaphore_at, semaphore_for, serde_json_on_literals, start_at, starts_at, taken_at, takes_at, tenant_at, true, wanted_at, wants_at, whole_required, word_value, ℕ, ⊤, ◌≡◌}

-- # which value bytes are

none_by : (bytes : List ℕ) (b : Bool) → is_utf8 bytes ≡ b → (IsUtf8 bytes → read bytes ≡ None) → cond b (read bytes) None ≡ None
none_by bytes true e none = none (IsUtf8-from_is_utf8 bytes e)
none_by bytes false e none = refl

pub parsed-none : (bytes : List ℕ) → (IsUtf8 bytes → read bytes ≡ None) → parsed bytes ≡ None
parsed-none bytes none = none_by bytes (is_utf8 bytes) refl none

pub parsed-some : (bytes : List ℕ) (d : Data) → IsUtf8 bytes → read bytes ≡ Some d → parsed bytes ≡ Some d
parsed-some bytes d utf8 is = rw (is_utf8-from_IsUtf8 bytes utf8) is

-- # what an answer unfolds to compute the reading of a literal

unfoldable labels_on_literals : ⊤
unfolding new_name name_at named_at is_name_text label_row label_at semaphore_at
labels_on_literals = tt

unfoldable lists_on_literals : ⊤
unfolding items_from list_at list_required list_maybe whole_required
lists_on_literals = tt

unfoldable providers_on_literals : ⊤
unfolding label_for label_value offer_label offer_amount offer_at start_at limit_at offers_at starts_at pool_row pool_at provider_row pools_at provider_at
providers_on_literals = tt

unfoldable requesters_on_literals : ⊤
unfolding tenant_at wanted_at semaphore_for taken_at word_value wants_at takes_at demand_at job_row job_at jobs_at requester_row requester_at required_word role_at fault_at
requesters_on_literals = tt

unfoldable pub reading_on_literals : ⊤
unfolding is_utf8 chars digits serde_json_on_literals lists_on_literals labels_on_literals providers_on_literals requesters_on_literals configuration_at reads
reading_on_literals = tt
