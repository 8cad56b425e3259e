-- A guard for a member's own key, change request K6: what it signs, and what that means for the member.
-- Read in this order.
pub mod Signing
pub mod Calls
pub mod Safe
pub mod Members
